-- The words so far were taken.
use Rattle.std.proofs.Common.{◌≡◌, take}
use Rattle.mxf_commands.proofs.listed.all_words.Given as goal

abbrev pub invariant-words : goal.invariant-words
invariant-words l = l.all.items ≡ take l.word-index l.words
