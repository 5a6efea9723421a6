use Rattle.std.proofs.Common.{◌≡◌, refl, sym, ℕ, ◌+◌, ◌<◌, arith}
use Rattle.std.proofs.lemmas.Bool.{true≢false}
use Rattle.std.specs.Prelude.{None, Some}
use Rattle.dv_schema.specs.Definitions.{relationships_of}
use Rattle.dv_cascade.proofs.Leading.{link_there, read_at}
use Rattle.dv_cascade.proofs.Blocked.{blocks_is, none_blocks_more, none_blocks_past, none_blocks_full}
use Rattle.dv_cascade.proofs.blocking.first_blocking.Goals as goal

next-small : (n : ℕ) → n < 65536 → (n ≡ 65535 → ⊥) → n + 1 < 65536
next-small n l not = omega (arith, l, not)

pub blocks_by-requires : goal.blocks_by-requires
blocks_by-requires c = link_there c.args.definition.now c.args.store.now.present c.relationships.number c.in-Some.relationship.now c.requires
    (read_at c.relationships-in-relationships.result.now (relationships_of c.args.definition.now) c.from.result c.relationships.number (Some c.in-Some.relationship.now) c.relationships-in-relationships.ensures c.from.ensures c.in-Some.ensures)

pub returns-then-blocks_by : goal.returns-then-blocks_by
returns-then-blocks_by c = record {
  is = blocks_is c.args.store.now.present c.args.definition.now c.args.set.now c.relationships.number c.in-Some.relationship.now c.relationships.invariant.1
      (read_at c.relationships-in-relationships.result.now (relationships_of c.args.definition.now) c.from.result c.relationships.number (Some c.in-Some.relationship.now) c.relationships-in-relationships.ensures c.from.ensures c.in-Some.ensures)
      (c.if-blocks_by.ensures.0 refl);
  least = c.relationships.invariant.0;
}

pub relationships-preserved : goal.relationships-preserved
relationships-preserved c = (
  none_blocks_more c.args.store.now.present c.args.definition.now c.args.set.now c.relationships.number (c.relationships.number + 1) c.in-Some.relationship.now refl
      (read_at c.relationships-in-relationships.result.now (relationships_of c.args.definition.now) c.from.result c.relationships.number (Some c.in-Some.relationship.now) c.relationships-in-relationships.ensures c.from.ensures c.in-Some.ensures)
      (λ h. true≢false (sym (c.if-blocks_by.ensures.1 h))) c.relationships.invariant.0,
  next-small c.relationships.number c.relationships.invariant.1 c.if-number.false,
)

pub returns-then-number : goal.returns-then-number
returns-then-number c = none_blocks_full c.args.store.now.present c.args.definition.now c.args.set.now c.relationships.number c.if-number.true
    (none_blocks_more c.args.store.now.present c.args.definition.now c.args.set.now c.relationships.number (c.relationships.number + 1) c.in-Some.relationship.now refl
    (read_at c.relationships-in-relationships.result.now (relationships_of c.args.definition.now) c.from.result c.relationships.number (Some c.in-Some.relationship.now) c.relationships-in-relationships.ensures c.from.ensures c.in-Some.ensures)
    (λ h. true≢false (sym (c.if-blocks_by.ensures.1 h))) c.relationships.invariant.0)

pub returns : goal.returns
returns c = none_blocks_past c.args.store.now.present c.args.definition.now c.args.set.now c.relationships.number
    (read_at c.relationships-in-relationships.result.now (relationships_of c.args.definition.now) c.from.result c.relationships.number None c.relationships-in-relationships.ensures c.from.ensures c.in_default.ensures) c.relationships.invariant.0
