-- Descriptors of essence (ST 377-1, File Descriptor, Generic Picture and Generic Sound Essence Descriptor, Multiple
-- Descriptor sets; any set is read as one. Which fields are read and have to be there is this project's profile).
use Rattle.std.specs.Prelude.{ℕ, List, [], ◌∷◌, Option, Result}
use Rattle.mxf_sets.specs.declared.record.Field.{Field}
use Rattle.mxf_sets.specs.declared.record.FieldFault.{FieldFault}
use Rattle.mxf_sets.specs.declared.record.Shape.TheVariants.{Exactly, References}
use Rattle.mxf_sets.specs.declared.record.descriptor.PictureFields.{PictureFields}
use Rattle.mxf_sets.specs.declared.record.descriptor.SoundFields.{SoundFields}
use Rattle.mxf_sets.specs.declared.record.rate.Rate.{Rate}
use Rattle.mxf_sets.specs.Fields.{required, optional, record_at}
use Rattle.mxf_sets.specs.Items.{ItemParts}
use Rattle.mxf_sets.specs.Lookup.{bytes_of, value_of}
use Rattle.mxf_sets.specs.Numbers.{some_number_in, duration_in}
use Rattle.mxf_sets.specs.Rate.{rate_in}
use Rattle.mxf_sets.specs.Reference.{references_in}
use Rattle.mxf_sets.specs.Tags.{instance_uid_tag, linked_track_tag, sample_rate_tag, container_duration_tag}
use Rattle.mxf_sets.specs.Tags.{essence_container_tag, stored_width_tag, stored_height_tag, display_width_tag}
use Rattle.mxf_sets.specs.Tags.{display_height_tag, frame_layout_tag, aspect_ratio_tag, picture_coding_tag}
use Rattle.mxf_sets.specs.Tags.{component_depth_tag, horizontal_subsampling_tag, vertical_subsampling_tag}
use Rattle.mxf_sets.specs.Tags.{audio_rate_tag, channel_count_tag, quantization_bits_tag, sound_coding_tag}
use Rattle.mxf_sets.specs.Tags.{subdescriptors_tag}

-- A descriptor: the track that it describes, edit units in a second, its duration if it is known, the label of the
-- essence container, what it says of picture and sound, and references to the descriptors of its parts.
pub record DescriptorParts : Type 0 where
  pub instance_uid : List ℕ
  pub linked_track : Option ℕ
  pub sample_rate : Option Rate
  pub duration : Option ℕ
  pub essence_container : Option (List ℕ)
  pub picture : PictureFields
  pub sound : SoundFields
  pub subdescriptors : List (List ℕ)

-- The fields in the order of testing.
abbrev pub descriptor_fields : List Field
descriptor_fields =
    required instance_uid_tag (Exactly 16)
    ∷ optional linked_track_tag (Exactly 4)
    ∷ optional sample_rate_tag (Exactly 8)
    ∷ optional container_duration_tag (Exactly 8)
    ∷ optional essence_container_tag (Exactly 16)
    ∷ optional stored_width_tag (Exactly 4)
    ∷ optional stored_height_tag (Exactly 4)
    ∷ optional display_width_tag (Exactly 4)
    ∷ optional display_height_tag (Exactly 4)
    ∷ optional frame_layout_tag (Exactly 1)
    ∷ optional aspect_ratio_tag (Exactly 8)
    ∷ optional picture_coding_tag (Exactly 16)
    ∷ optional component_depth_tag (Exactly 4)
    ∷ optional horizontal_subsampling_tag (Exactly 4)
    ∷ optional vertical_subsampling_tag (Exactly 4)
    ∷ optional audio_rate_tag (Exactly 8)
    ∷ optional channel_count_tag (Exactly 4)
    ∷ optional quantization_bits_tag (Exactly 4)
    ∷ optional sound_coding_tag (Exactly 16)
    ∷ optional subdescriptors_tag References
    ∷ []

-- What items say of a picture.
abbrev pub picture_of : List ItemParts → PictureFields
picture_of items = record {
  stored_width = some_number_in 4 stored_width_tag items;
  stored_height = some_number_in 4 stored_height_tag items;
  display_width = some_number_in 4 display_width_tag items;
  display_height = some_number_in 4 display_height_tag items;
  frame_layout = some_number_in 1 frame_layout_tag items;
  aspect_ratio = rate_in aspect_ratio_tag items;
  coding = value_of picture_coding_tag items;
  component_depth = some_number_in 4 component_depth_tag items;
  horizontal_subsampling = some_number_in 4 horizontal_subsampling_tag items;
  vertical_subsampling = some_number_in 4 vertical_subsampling_tag items;
}

-- What items say of a sound.
abbrev pub sound_of : List ItemParts → SoundFields
sound_of items = record {
  sampling_rate = rate_in audio_rate_tag items;
  channel_count = some_number_in 4 channel_count_tag items;
  quantization_bits = some_number_in 4 quantization_bits_tag items;
  coding = value_of sound_coding_tag items;
}

-- The record of items that have met the table.
abbrev pub descriptor_of : List ItemParts → DescriptorParts
descriptor_of items = record {
  instance_uid = bytes_of instance_uid_tag items;
  linked_track = some_number_in 4 linked_track_tag items;
  sample_rate = rate_in sample_rate_tag items;
  duration = duration_in container_duration_tag items;
  essence_container = value_of essence_container_tag items;
  picture = picture_of items;
  sound = sound_of items;
  subdescriptors = references_in subdescriptors_tag items;
}

-- The record of a value, or the first fault.
abbrev pub descriptor_at : List ℕ → Result DescriptorParts FieldFault
descriptor_at bytes = record_at descriptor_fields descriptor_of bytes
