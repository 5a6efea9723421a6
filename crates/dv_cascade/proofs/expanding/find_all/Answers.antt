use Rattle.std.proofs.Common.{◌≡◌, refl, ℕ, ◌+◌, ◌<◌, ◌≤◌, arith}
use Rattle.std.specs.Prelude.{None, Some, slice_get}
use Rattle.dv_schema.specs.Definitions.{relationships_of}
use Rattle.dv_cascade.proofs.Among.{at-past}
use Rattle.dv_cascade.proofs.Leading.{link_there, read_at, relationships_begin, relationships_more, relationships_end}
use Rattle.dv_cascade.proofs.expanding.find_all.Goals as goal

next-small : (n : ℕ) → n < 65536 → (n ≡ 65535 → ⊥) → n + 1 < 65536
next-small n l not = omega (arith, l, not)

last-within : (n m : ℕ) → m ≡ 65535 → n < 65536 → n < m + 1
last-within n m e l = omega (arith, e, l)

last-small : (m : ℕ) → m ≡ 65535 → m + 1 ≤ 65536
last-small m e = omega (arith, e)

small : (m : ℕ) → m < 65536 → m ≤ 65536
small m l = omega (arith, l)

pub find_by-requires : goal.find_by-requires
find_by-requires c = link_there c.args.definition.now c.args.store.now.present c.relationships.number c.in-Some.relationship.now c.requires
    (read_at c.relationships-in-relationships.result.now (relationships_of c.args.definition.now) c.from.result c.relationships.number (Some c.in-Some.relationship.now) c.relationships-in-relationships.ensures c.from.ensures c.in-Some.ensures)

pub relationships-preserved : goal.relationships-preserved
relationships-preserved c =
    let there : slice_get (relationships_of c.args.definition.now) c.relationships.number ≡ Some c.in-Some.relationship.now = read_at c.relationships-in-relationships.result.now (relationships_of c.args.definition.now) c.from.result c.relationships.number (Some c.in-Some.relationship.now) c.relationships-in-relationships.ensures c.from.ensures c.in-Some.ensures in (
      relationships_more c.args.store.now.present c.args.definition.now c.args.cascading c.args.parent c.relationships.number (c.relationships.number + 1) c.in-Some.relationship.now c.args.found.now c.relationships.found c.find_by.new.found
          there refl c.relationships.invariant.0 c.in_ok-find_by.ensures,
      next-small c.relationships.number c.relationships.invariant.1 c.if-number.false,
    )

pub returns-then-number : goal.returns-then-number
returns-then-number c =
    let there : slice_get (relationships_of c.args.definition.now) c.relationships.number ≡ Some c.in-Some.relationship.now = read_at c.relationships-in-relationships.result.now (relationships_of c.args.definition.now) c.from.result c.relationships.number (Some c.in-Some.relationship.now) c.relationships-in-relationships.ensures c.from.ensures c.in-Some.ensures in
    relationships_end c.args.store.now.present c.args.definition.now c.args.cascading c.args.parent (c.relationships.number + 1) c.args.found.now c.find_by.new.found (last-small c.relationships.number c.if-number.true)
    (λ number r l at. last-within number c.relationships.number c.if-number.true l)
    (relationships_more c.args.store.now.present c.args.definition.now c.args.cascading c.args.parent c.relationships.number (c.relationships.number + 1) c.in-Some.relationship.now c.args.found.now c.relationships.found c.find_by.new.found
    there refl c.relationships.invariant.0 c.in_ok-find_by.ensures)

pub returns : goal.returns
returns c =
    let past : slice_get (relationships_of c.args.definition.now) c.relationships.number ≡ None = read_at c.relationships-in-relationships.result.now (relationships_of c.args.definition.now) c.from.result c.relationships.number None c.relationships-in-relationships.ensures c.from.ensures c.in_default.ensures in
    relationships_end c.args.store.now.present c.args.definition.now c.args.cascading c.args.parent c.relationships.number c.args.found.now c.relationships.found (small c.relationships.number c.relationships.invariant.1)
    (λ number r l at. at-past (relationships_of c.args.definition.now) c.relationships.number number r past at) c.relationships.invariant.0

pub relationships-init : goal.relationships-init
relationships-init c = (relationships_begin c.args.store.now.present c.args.definition.now c.args.cascading c.args.parent c.args.found.now, zero-small)
  where
    zero-small : 0 < 65536
    zero-small = omega arith
