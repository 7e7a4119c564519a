-- The tags of the items that are read (ST 377-1, the tables of the sets' properties: local tags), as the standard
-- numbers them.
use Rattle.std.specs.Prelude.{ℕ}

-- Interchange Object.
abbrev pub instance_uid_tag : ℕ
instance_uid_tag = 0x3C0A

-- Preface.
abbrev pub content_storage_tag : ℕ
content_storage_tag = 0x3B03

abbrev pub identifications_tag : ℕ
identifications_tag = 0x3B06

-- Content Storage.
abbrev pub packages_tag : ℕ
packages_tag = 0x1901

-- Identification.
abbrev pub this_generation_uid_tag : ℕ
this_generation_uid_tag = 0x3C09

abbrev pub company_name_tag : ℕ
company_name_tag = 0x3C01

abbrev pub product_name_tag : ℕ
product_name_tag = 0x3C02

abbrev pub version_string_tag : ℕ
version_string_tag = 0x3C04

abbrev pub product_uid_tag : ℕ
product_uid_tag = 0x3C05

abbrev pub modification_date_tag : ℕ
modification_date_tag = 0x3C06

-- Generic Package.
abbrev pub package_uid_tag : ℕ
package_uid_tag = 0x4401

abbrev pub name_tag : ℕ
name_tag = 0x4402

abbrev pub tracks_tag : ℕ
tracks_tag = 0x4403

abbrev pub modified_date_tag : ℕ
modified_date_tag = 0x4404

abbrev pub creation_date_tag : ℕ
creation_date_tag = 0x4405

-- Source Package.
abbrev pub descriptor_tag : ℕ
descriptor_tag = 0x4701

-- Generic Track.
abbrev pub track_id_tag : ℕ
track_id_tag = 0x4801

abbrev pub track_name_tag : ℕ
track_name_tag = 0x4802

abbrev pub sequence_tag : ℕ
sequence_tag = 0x4803

abbrev pub track_number_tag : ℕ
track_number_tag = 0x4804

-- Timeline Track.
abbrev pub track_rate_tag : ℕ
track_rate_tag = 0x4B01

abbrev pub origin_tag : ℕ
origin_tag = 0x4B02

-- Structural Component.
abbrev pub data_definition_tag : ℕ
data_definition_tag = 0x0201

abbrev pub component_duration_tag : ℕ
component_duration_tag = 0x0202

-- Sequence.
abbrev pub components_tag : ℕ
components_tag = 0x1001

-- Source Clip.
abbrev pub source_package_tag : ℕ
source_package_tag = 0x1101

abbrev pub source_track_tag : ℕ
source_track_tag = 0x1102

abbrev pub start_position_tag : ℕ
start_position_tag = 0x1201

-- Timecode Component.
abbrev pub start_timecode_tag : ℕ
start_timecode_tag = 0x1501

abbrev pub timecode_base_tag : ℕ
timecode_base_tag = 0x1502

abbrev pub drop_frame_tag : ℕ
drop_frame_tag = 0x1503

-- Essence Container Data.
abbrev pub linked_package_tag : ℕ
linked_package_tag = 0x2701

-- Generic Descriptor, File Descriptor, Multiple Descriptor.
abbrev pub subdescriptors_tag : ℕ
subdescriptors_tag = 0x3F01

abbrev pub sample_rate_tag : ℕ
sample_rate_tag = 0x3001

abbrev pub container_duration_tag : ℕ
container_duration_tag = 0x3002

abbrev pub essence_container_tag : ℕ
essence_container_tag = 0x3004

abbrev pub linked_track_tag : ℕ
linked_track_tag = 0x3006

-- Picture Essence Descriptors.
abbrev pub picture_coding_tag : ℕ
picture_coding_tag = 0x3201

abbrev pub stored_height_tag : ℕ
stored_height_tag = 0x3202

abbrev pub stored_width_tag : ℕ
stored_width_tag = 0x3203

abbrev pub display_height_tag : ℕ
display_height_tag = 0x3208

abbrev pub display_width_tag : ℕ
display_width_tag = 0x3209

abbrev pub frame_layout_tag : ℕ
frame_layout_tag = 0x320C

abbrev pub aspect_ratio_tag : ℕ
aspect_ratio_tag = 0x320E

abbrev pub component_depth_tag : ℕ
component_depth_tag = 0x3301

abbrev pub horizontal_subsampling_tag : ℕ
horizontal_subsampling_tag = 0x3302

abbrev pub vertical_subsampling_tag : ℕ
vertical_subsampling_tag = 0x3308

-- Sound Essence Descriptors.
abbrev pub quantization_bits_tag : ℕ
quantization_bits_tag = 0x3D01

abbrev pub audio_rate_tag : ℕ
audio_rate_tag = 0x3D03

abbrev pub sound_coding_tag : ℕ
sound_coding_tag = 0x3D06

abbrev pub channel_count_tag : ℕ
channel_count_tag = 0x3D07

-- Index Table Segment; Essence Container Data has the identifiers of its streams by the same tags.
abbrev pub unit_bytes_tag : ℕ
unit_bytes_tag = 0x3F05

abbrev pub index_sid_tag : ℕ
index_sid_tag = 0x3F06

abbrev pub body_sid_tag : ℕ
body_sid_tag = 0x3F07

abbrev pub slices_tag : ℕ
slices_tag = 0x3F08

abbrev pub entries_tag : ℕ
entries_tag = 0x3F0A

abbrev pub edit_rate_tag : ℕ
edit_rate_tag = 0x3F0B

abbrev pub start_tag : ℕ
start_tag = 0x3F0C

abbrev pub duration_tag : ℕ
duration_tag = 0x3F0D

abbrev pub positions_tag : ℕ
positions_tag = 0x3F0E
