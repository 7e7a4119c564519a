-- The words for links, the chain and standings (this project's profile).
use Rattle.std.specs.Prelude.{ℕ, List, codes}
use Rattle.mxf_views.specs.declared.chain.Link.{Link}
use Rattle.mxf_views.specs.declared.chain.Link.TheVariants.{First, Held, Skips, Missing, Wrong}
use Rattle.mxf_views.specs.declared.chain.Chain.{Chain}
use Rattle.mxf_views.specs.declared.chain.Chain.TheVariants.{Whole, Broken}
use Rattle.mxf_views.specs.declared.random_index.Standing.{Standing}
use Rattle.mxf_views.specs.declared.random_index.Standing.TheVariants as standings

-- The word for how a partition names the one before it.
abbrev pub link_name : Link → List ℕ
link_name First = codes "first"
link_name Held = codes "held"
link_name Skips = codes "skips"
link_name Missing = codes "missing"
link_name Wrong = codes "wrong"

-- The word for the chain of the partitions.
abbrev pub chain_name : Chain → List ℕ
chain_name Whole = codes "whole"
chain_name Broken = codes "broken"

-- The word for how an entry of the random index pack stands to the partitions.
abbrev pub standing_name : Standing → List ℕ
standing_name standings.Held = codes "held"
standing_name standings.Differs = codes "differs"
standing_name standings.Missing = codes "missing"
