-- The lines of what the references of the preferred copy lead to (this project's profile; the fields are those of
-- ST 377-1, Identification and Generic Package sets). An identifier is printed as RFC 9562 writes a UUID.
use Rattle.std.specs.Prelude.{⊤, ℕ, ◌≡◌, ◌==◌, List, [], ◌∷◌, ◌++◌, length, find, codes, Option, None, Some, flat_map}
use Rattle.std.specs.Prelude.{option_and_then, option_map}
use Rattle.std.specs.BTreeMap.{BTreeMap, get}
use Rattle.std.specs.Fmt.{signed_decimal}
use Rattle.std.specs.Ordering.{nat_cmp}
use Rattle.uuid.specs.Text.{hyphenated_text, lower}
use Rattle.mxf_klv.specs.Kind.{kind_of}
use Rattle.mxf_klv.specs.Parts.{NoteParts}
use Rattle.mxf_klv.specs.declared.kinds.Kind.{Kind}
use Rattle.mxf_klv.specs.declared.kinds.Kind.TheVariants.{MaterialPackage}
use Rattle.mxf_sets.specs.Identification.{IdentificationParts, identification_at}
use Rattle.mxf_sets.specs.Package.{PackageParts, package_at}
use Rattle.mxf_sets.specs.Readable.{read_as}
use Rattle.mxf_sets.specs.declared.record.timestamp.Timestamp.{Timestamp}
use Rattle.mxf_catalogue.specs.Disputes.{clear_notes}
use Rattle.mxf_references.specs.Resolved.{ResolvedParts}
use Rattle.mxf_references.specs.declared.reference.target.Ref.{Ref}
use Rattle.mxf_references.specs.declared.reference.target.Target.{Target}
use Rattle.mxf_references.specs.declared.reference.target.Target.TheVariants.{Missing, Several, WrongKind, Unreadable}
use Rattle.mxf_references.specs.declared.reference.target.Target.TheVariants.{Found}
use Rattle.mxf_lines.specs.declared.printing.line.record.Property.{Property}
use Rattle.mxf_lines.specs.declared.printing.line.record.Property.TheVariants as properties
use Rattle.mxf_lines.specs.declared.printing.line.record.Named.{Named}
use Rattle.mxf_lines.specs.declared.printing.line.record.Named.TheVariants.{Identification, Package}
use Rattle.mxf_lines.specs.declared.printing.line.record.Owner.{Owner}
use Rattle.mxf_lines.specs.declared.printing.references.Record.{Record}
use Rattle.mxf_lines.specs.declared.printing.references.Record.TheVariants as records
use Rattle.mxf_forms.specs.Forms.{Characters, Field, PrintedLine, digits, line_of, member, number, word}
use Rattle.mxf_forms.specs.Hexadecimal.{hex_of}
use Rattle.mxf_lines.specs.Lines.{lines_where}
use Rattle.mxf_lines.specs.ShownText.{shown_value}

-- The word for what a reference names.
abbrev pub named_word : Named → List ℕ
named_word Identification = codes "identification"
named_word Package = codes "package"

-- An identifier as lower-case digits with hyphens.
abbrev pub uid_text : List ℕ → List ℕ
uid_text uid = hyphenated_text lower uid

-- What a reference leads to, and at which offset.
abbrev pub target_fields : Target → List Field
target_fields Missing = word " " "target" (codes "missing") ∷ []
target_fields Several = word " " "target" (codes "several") ∷ []
target_fields (WrongKind offset) = word " " "target" (codes "wrong-kind") ∷ number " " "offset" offset ∷ []
target_fields (Unreadable offset) = word " " "target" (codes "unreadable") ∷ number " " "offset" offset ∷ []
target_fields (Found offset) = word " " "target" (codes "found") ∷ number " " "offset" offset ∷ []

-- The line of a reference: what it names, its identifier, and what it leads to.
unfoldable pub reference_line : Named → Ref → PrintedLine
reference_line named r =
    line_of (named_word named) (named_word named) (word " " "uid" (uid_text r.uid) ∷ target_fields r.target) []

-- The word for a package by the kind of its set, a Material Package or a Source Package.
abbrev pub package_word : Kind → List ℕ
package_word MaterialPackage = codes "material"
package_word _ = codes "source"

-- The word for what a record says.
abbrev pub property_word : Property → List ℕ
property_word properties.Generation = codes "generation"
property_word properties.Company = codes "company"
property_word properties.Product = codes "product"
property_word properties.Version = codes "version"
property_word properties.ProductUid = codes "product-uid"
property_word properties.Kind = codes "kind"
property_word properties.PackageUid = codes "package-uid"
property_word properties.Modified = codes "modified"
property_word properties.Name = codes "name"
property_word properties.Created = codes "created"
property_word properties.Tracks = codes "tracks"
property_word properties.Descriptor = codes "descriptor"
property_word properties.TrackName = codes "track-name"

-- What the values of properties are printed as: an identifier, the digits of a longer one, a text, the seven numbers of
-- a timestamp, of which the year alone may be negative, a number of tracks, and the kind of a package.
abbrev pub uid_fields : List ℕ → List Field
uid_fields uid = word " " "uid" (uid_text uid) ∷ []

abbrev pub hex_fields : List ℕ → List Field
hex_fields bytes = word " " "uid" (hex_of bytes) ∷ []

abbrev pub text_fields : List ℕ → List Field
text_fields text = word " " "text" text ∷ []

abbrev pub timestamp_fields : Timestamp → List Field
timestamp_fields t =
    digits " " "year" (signed_decimal t.year) ∷ number " " "month" t.month ∷ number " " "day" t.day
    ∷ number " " "hour" t.hour ∷ number " " "minute" t.minute ∷ number " " "second" t.second
    ∷ number " " "quarter" t.milliseconds_by_four ∷ []

-- The text that the value of an item is.
abbrev pub shown_fields : List ℕ → List Field
shown_fields value = text_fields (shown_value value)

abbrev pub tracks_fields : ℕ → List Field
tracks_fields tracks = number " " "tracks" tracks ∷ []

abbrev pub kind_fields : Kind → List Field
kind_fields kind = word " " "kind" (package_word kind) ∷ []

-- The member of JSON that names the set that a record is of: what a reference names, and its identifier.
abbrev pub owner_fields : Owner → List Field
owner_fields o = member (named_word o.named) (Characters (uid_text o.uid)) ∷ []

-- The line of a value under this word, with the members of JSON that say what it is of.
abbrev pub value_line : List Field → List ℕ → List Field → PrintedLine
value_line owner word fields = line_of word word (fields ++ owner) []

-- The line of a value if it is there, by its fields.
abbrev pub value_lines : {X : Type 0} → List Field → List ℕ → (X → List Field) → Option X → List PrintedLine
value_lines owner word fields value = lines_where (λ x. value_line owner word (fields x) ∷ []) value

-- The lines of the product that an Identification is of, and of when it was modified: of those that are there.
abbrev pub product_lines : Owner → IdentificationParts → List PrintedLine
product_lines o i =
    value_lines (owner_fields o) (codes "product") shown_fields i.product_name
    ++ (value_lines (owner_fields o) (codes "version") shown_fields i.version_string
    ++ (value_lines (owner_fields o) (codes "product-uid") hex_fields i.product_uid
    ++ value_lines (owner_fields o) (codes "modified") timestamp_fields i.modification_date))

-- The lines of an Identification: those of its properties that are there, in this order.
abbrev pub identification_lines : Owner → IdentificationParts → List PrintedLine
identification_lines o i =
    value_lines (owner_fields o) (codes "generation") uid_fields i.this_generation_uid
    ++ (value_lines (owner_fields o) (codes "company") shown_fields i.company_name ++ product_lines o i)

-- The lines of the dates of a package, of how many tracks it has, and of its descriptor: of those that are there.
abbrev pub package_details : Owner → PackageParts → List PrintedLine
package_details o p =
    value_lines (owner_fields o) (codes "created") timestamp_fields p.creation_date
    ++ (value_lines (owner_fields o) (codes "modified") timestamp_fields p.modified_date
    ++ (value_line (owner_fields o) (codes "tracks") (tracks_fields (length p.tracks))
    ∷ value_lines (owner_fields o) (codes "descriptor") uid_fields p.descriptor))

-- The lines of a package whose set has this kind: that, its identifier, its name if it is there, and those above.
abbrev pub package_lines : Owner → Kind → PackageParts → List PrintedLine
package_lines o kind p =
    value_line (owner_fields o) (codes "kind") (kind_fields kind)
    ∷ value_line (owner_fields o) (codes "package-uid") (hex_fields p.package_uid)
    ∷ (value_lines (owner_fields o) (codes "name") shown_fields p.name ++ package_details o p)

-- The lines of the record of a set.
abbrev pub lines_of_record : Owner → Record → List PrintedLine
lines_of_record o (records.Identification i) = identification_lines o i
lines_of_record o (records.Package kind p) = package_lines o kind p

-- The record of a note, none if its value isn't kept, or is no such record.
abbrev pub record_of : Named → NoteParts → Option Record
record_of Identification n = option_map records.Identification (read_as identification_at n)
record_of Package n = option_map (records.Package (kind_of n.key)) (read_as package_at n)

-- A record is kept of the set that was found.
abbrev pub IsAmong : BTreeMap ℕ (Option Record) → Target → Type 0
IsAmong kept (Found offset) = (found : Option Record) × (get nat_cmp kept offset ≡ Some found)
IsAmong kept target = ⊤

-- No record is kept of the set that was found, if one was.
abbrev pub IsNotAmong : BTreeMap ℕ (Option Record) → Target → Type 0
IsNotAmong kept (Found offset) = get nat_cmp kept offset ≡ None
IsNotAmong kept target = ⊤

-- The record that was found: that of the clear note at its offset.
abbrev pub found_record : List NoteParts → Named → Target → Option Record
found_record content named (Found offset) =
    option_and_then (record_of named) (find (λ n. n.offset == offset) (clear_notes content))
found_record content named target = None

-- The set that a reference names.
abbrev pub owner_of : Named → Ref → Owner
owner_of named r = record { named = named; uid = r.uid }

-- The lines of a reference: its own, and those of the record that it leads to.
abbrev pub lines_of_reference : List NoteParts → Named → Ref → List PrintedLine
lines_of_reference content named r =
    reference_line named r ∷ lines_where (lines_of_record (owner_of named r)) (found_record content named r.target)

-- The lines of references that all name identifications, or all packages.
abbrev pub named_lines : List NoteParts → Named → List Ref → List PrintedLine
named_lines content named references = flat_map (lines_of_reference content named) references

-- The lines of the references of a copy: of those to identifications, then of those to packages.
abbrev pub resolved_lines : List NoteParts → ResolvedParts → List PrintedLine
resolved_lines content r =
    named_lines content Identification r.identifications ++ named_lines content Package r.packages

-- The lines of the references of the preferred copy, none without one.
abbrev pub reference_lines : List NoteParts → Option ResolvedParts → List PrintedLine
reference_lines content resolved = lines_where (resolved_lines content) resolved

-- What is kept by the offsets of sets is the record that was found at each.
abbrev pub AreRecordsIn : List NoteParts → Named → BTreeMap ℕ (Option Record) → Type 0
AreRecordsIn content named kept =
    (at : ℕ) (found : Option Record) → get nat_cmp kept at ≡ Some found → found ≡ found_record content named (Found at)
