-- A table of an accepted definition is the child of at most one parental relationship.
use Rattle.std.proofs.Common.{◌≡◌, sym, ap, ◌∙◌}
use Rattle.std.specs.Prelude.{Some, slice_get}
use Rattle.dv_schema.specs.declared.definition.Definition.{Definition}
use Rattle.dv_schema.specs.declared.relationship.Relationship.{Relationship}
use Rattle.dv_schema.specs.Definitions.{relationships_of}
use Rattle.dv_schema.specs.Sound.{IsSound}
use Rattle.dv_cascade.specs.Circles.{HasOneParent}

pub has_one_parent : (d : Definition) → IsSound d → HasOneParent d
has_one_parent d sound i j r s at-i at-j r-is s-is child = same r s (sym at-i ∙ ap (slice_get (relationships_of d)) (sym place) ∙ at-j)
  where
    same : (a b : Relationship) → Some a ≡ Some b → a ≡ b
    same a b e = cc

    place : j ≡ i
    place = (sound.relationships i r at-i).only_parent r-is j s at-j s-is (sym child)
