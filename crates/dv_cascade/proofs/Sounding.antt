-- The links of a world are sound as those of another with its rows, and where there are no rows.
use Rattle.std.proofs.Common.{◌≡◌, sym, ap, ◌∙◌, ℕ, suc, inl, is_some}
use Rattle.std.proofs.lemmas.Bool.{true≢false}
use Rattle.std.specs.FinMap as map
use Rattle.dv_schema.specs.declared.definition.Definition.{Definition}
use Rattle.dv_store.specs.declared.keys.RowKey.{RowKey}
use Rattle.dv_store.specs.Keys.{row_cmp, row_key}
use Rattle.dv_store.specs.Shapes.{place_of}
use Rattle.dv_store.specs.World.{World, empty, is_there, named_in, names}
use Rattle.dv_cascade.specs.Chains.{Chain}
use Rattle.dv_cascade.specs.Circles.{IsUnderParent}
use Rattle.dv_cascade.specs.Sound.{HasSoundLinks}
use Rattle.dv_cascade.proofs.Relinked.{no_new_circle}

under_alike : (old new : World) (d : Definition) → new.rows ≡ old.rows → (child parent : RowKey) → IsUnderParent new d child parent → IsUnderParent old d child parent
under_alike old new d same child parent h = record {
  number = h.number;
  relationship = h.relationship;
  there = h.there;
  parental = h.parental;
  refers = record {
    child_table = h.refers.child_table;
    parent_table = h.refers.parent_table;
    named = ap (λ rows. names (map.get rows child) (place_of h.relationship.column) parent.id) (sym same) ∙ h.refers.named;
  };
}

pub sound_alike : (old new : World) (d : Definition) → new.rows ≡ old.rows → HasSoundLinks old d → HasSoundLinks new d
sound_alike old new d same h = record {
  named = λ k r at child id table is. ap (λ rows. is_there rows (row_key r.parent id)) same
      ∙ h.named k r at child id table (ap (λ rows. named_in (map.get rows child) (place_of r.column)) (sym same) ∙ is);
  no_circle = λ key. no_new_circle (IsUnderParent old d) (IsUnderParent new d) key (λ child parent under. inl (under_alike old new d same child parent under)) h.no_circle key;
}

none_above : (d : Definition) (key : RowKey) (links : ℕ) → Chain (IsUnderParent (empty d) d) (suc links) key key → ⊥
unfolding Chain
none_above d key links chain = let under = chain.1.1 in true≢false (sym under.refers.named ∙ ap (λ row. names row (place_of under.relationship.column) key.id) (map.get-empty row_cmp chain.0))

pub sound_empty : (d : Definition) → HasSoundLinks (empty d) d
sound_empty d = record {
  named = λ k r at child id table is. absurd (true≢false (ap is_some (sym is ∙ ap (λ row. named_in row (place_of r.column)) (map.get-empty row_cmp child))));
  no_circle = none_above d;
}
