-- What contracts see of an order (this project's profile).
use Rattle.std.specs.Prelude.{ℕ, Bool, Option}
use Rattle.mxf_places.specs.declared.reason.Reason.{Reason}

-- Bytes to restore: why, from where on, up to where if that is known, and which pack says so; whether they begin within
-- a packet, and whether they were handed in and don't do.
pub record OrderParts : Type 0 where
  pub reason : Reason
  pub start : ℕ
  pub end : Option ℕ
  pub source : Option ℕ
  pub inside : Bool
  pub again : Bool
