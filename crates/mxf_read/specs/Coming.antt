-- A packet whose key and length are known, and a front of the value (this project's profile).
use Rattle.std.specs.Prelude.{◌≡◌, ℕ, ◌+◌, List, length}
use Rattle.mxf_klv.specs.KeyAndLength.{BeginsWithKeyAndLength}
use Rattle.mxf_read.specs.ValueSoFar.{Has, is_passing, passes}
use Rattle.mxf_skim.specs.declared.scan.Scan.{Scan}
use Rattle.mxf_read.specs.declared.coming.ComingValue.{ComingValue}

-- These bytes of the value have come.
pub record HasTaken (v : ComingValue) (bytes : List ℕ) : Type 0 where
  pub counted : v.left + length bytes ≡ v.ber.value
  pub so_far : Has v.so_far bytes

-- Both are of one packet, and are taken alike.
pub record IsSamePacket (v w : ComingValue) : Type 0 where
  pub offset : w.offset ≡ v.offset
  pub key : w.key ≡ v.key
  pub spelled : w.ber ≡ v.ber
  pub passing : is_passing w.so_far ≡ is_passing v.so_far

-- The packet begins at a place, and these bytes of it have come to a scan: key, length and a front of the value.
pub record HasCome (scan : Scan) (at : ℕ) (v : ComingValue) (bytes : List ℕ) : Type 0 where
  pub after : List ℕ
  pub begins : BeginsWithKeyAndLength bytes v.key v.ber after
  pub offset : v.offset ≡ at
  pub taken : HasTaken v after
  pub passing : is_passing v.so_far ≡ passes scan v.key v.ber.value
