-- Contents as sets of notes.
use Rattle.mxf_klv.proofs.Common.{subst, sym, inl, inr, NoteParts, IsNote, note_total, note_cmp-IsAntisymmetric, In}
use Rattle.mxf_klv.proofs.Common.{SameMembers, same_from_members, In-with_one, In-union, IsRising-with_one}
use Rattle.mxf_klv.proofs.Common.{IsRising-union}
use Rattle.std.specs.Prelude.{◌≡◌, ◌↔◌, ◌⊎◌, List}
use Rattle.mxf_catalogue.specs.Content.{IsContent, IsCatalogue, with_note, union_of}
use Rattle.mxf_klv.proofs.Lists.{all_from_In, all-In}

-- contents with the same notes are one list
pub same_content : (a b : List NoteParts) → IsContent a → IsContent b → SameMembers a b → a ≡ b
same_content = same_from_members note_total note_cmp-IsAntisymmetric

pub In-with_note : (m n : NoteParts) (notes : List NoteParts) → In m (with_note n notes) ↔ (m ≡ n) ⊎ In m notes
In-with_note m n notes = In-with_one note_total note_cmp-IsAntisymmetric m n notes

pub In-union_of : (n : NoteParts) (a b : List NoteParts) → In n (union_of a b) ↔ In n a ⊎ In n b
In-union_of n a b = In-union note_total note_cmp-IsAntisymmetric n a b

pub IsContent-with_note : (n : NoteParts) (notes : List NoteParts) → IsContent notes → IsContent (with_note n notes)
IsContent-with_note = IsRising-with_one note_total note_cmp-IsAntisymmetric

pub IsContent-union_of : (a b : List NoteParts) → IsContent a → IsContent (union_of a b)
IsContent-union_of = IsRising-union note_total note_cmp-IsAntisymmetric

-- what a catalogue with one more note is
pub IsCatalogue-with_note : (n : NoteParts) (notes : List NoteParts) → IsNote n → IsCatalogue notes
    → IsCatalogue (with_note n notes)
IsCatalogue-with_note n notes is c = record {
  content = IsContent-with_note n notes c.content;
  members = all_from_In IsNote (with_note n notes)
      (λ m h. elim ((In-with_note m n notes).0 h) [
        | inl e ↦ subst IsNote (sym e) is
        | inr k ↦ all-In IsNote notes m c.members k
      ]);
}

-- what a join of catalogues is
pub IsCatalogue-union_of : (a b : List NoteParts) → IsCatalogue a → IsCatalogue b → IsCatalogue (union_of a b)
IsCatalogue-union_of a b c d = record {
  content = IsContent-union_of a b c.content;
  members = all_from_In IsNote (union_of a b)
      (λ m h. elim ((In-union_of m a b).0 h) [
        | inl k ↦ all-In IsNote a m c.members k
        | inr k ↦ all-In IsNote b m d.members k
      ]);
}
