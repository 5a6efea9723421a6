-- Kinds and values of which a test says that they can be typed and shown.
use Rattle.std.proofs.Common.{◌≡◌, ◌^◌, rules, true, length}
use Rattle.std.specs.Prelude.{encode_utf8_all}
use Rattle.dv_value.specs.declared.kind.Kind.{Kind}
use Rattle.dv_value.specs.declared.kind.Kind.TheVariants as kind
use Rattle.dv_value.specs.Typing.{HasScale}
use Rattle.dv_value.specs.declared.value.Value.{Value}
use Rattle.dv_value.specs.declared.value.Value.TheVariants as value
use Rattle.dv_value.specs.Spelling.{HasSpelling}
use Rattle.std.proofs.lemmas.Bool.{leb-true, ltb-true}
use Rattle.dv_message.specs.Columns.{has_scale}
use Rattle.dv_message.specs.Showing.{has_spelling}

pub has_scale_is : (k : Kind) → has_scale k ≡ true → HasScale k
unfolding has_scale HasScale
has_scale_is kind.Flag h = tt
has_scale_is (kind.Whole min max) h = tt
has_scale_is (kind.Choice options) h = tt
has_scale_is (kind.Amount scale) h = leb-true scale 4 h
has_scale_is kind.Moment h = tt
has_scale_is (kind.Text max) h = tt
has_scale_is kind.Ref h = tt

pub has_spelling_is : (v : Value) → has_spelling v ≡ true → HasSpelling v
unfolding has_spelling HasSpelling
has_spelling_is value.Empty h = tt
has_spelling_is (value.Flag flag) h = tt
has_spelling_is (value.Whole number) h = tt
has_spelling_is (value.Choice number) h = tt
has_spelling_is (value.Amount amount) h = tt
has_spelling_is (value.Moment seconds) h = search rules
has_spelling_is (value.Text text) h = ltb-true (length (encode_utf8_all text)) (2 ^ 32) h
has_spelling_is (value.Ref id) h = tt
