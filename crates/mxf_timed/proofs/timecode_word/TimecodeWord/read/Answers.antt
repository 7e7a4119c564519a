use Rattle.std.proofs.Common.{◌≡◌, ◌∙◌, ap, sym}
use Rattle.mxf_timed.specs.TimecodeWords.{word_in}
use Rattle.mxf_timed.proofs.WordLaws.{read_is_written, written_is_read}
use Rattle.mxf_timed.proofs.timecode_word.TimecodeWord.read.Goals as goal

pub returns : goal.returns
returns c =
    let text = c.args.text.now in
    let is : c.word_in.result ≡ word_in text = c.word_in.ensures ∙ ap word_in c.as_bytes.ensures.value in
    λ w. (λ e. read_is_written text w (sym is ∙ e), λ h. is ∙ written_is_read text w h)
