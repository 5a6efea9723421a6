use Rattle.std.proofs.Common.{ap, ◌∙◌, ◌++◌, chars}
use Rattle.std.proofs.lemmas.Str.{chars-append}
use Rattle.dv_meta.proofs.spelling.with_ending.Goals as goal

pub returns : goal.returns
returns c =
    c.from_string.ensures ∙ ap chars (c.in_ok-push_str.ensures.bytes ∙ ap (λ bytes. bytes ++ c.args.ending.now) c.in_ok-joined.ensures.ok)
    ∙ chars-append c.as_str.result.now c.args.ending.now c.as_str.utf8 ∙ ap (λ text. text ++ chars c.args.ending.now) c.as_str.ensures.characters
