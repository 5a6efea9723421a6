-- The parts of a value nest less deep than it.
use Rattle.std.proofs.Common.{◌≡◌, ap, ℕ, zero, suc, ◌+◌, ◌<◌, ◌≤◌, max, List, [], ◌∷◌, length, get_or, Option, Some, Ordering, Less, Equal, Greater, nat_cmp, arith}
use Rattle.std.specs.Cmp.Lexicographic.{slice_cmp}
use Rattle.std.specs.Ordering.{match_ordering}
use Rattle.serde_json.specs.Data.{Data, null, boolean, number, string, array, object, Members, no_members, member, depth, items_depth, members_depth}
use Rattle.serde_json.specs.Find.{get, get_member}
use Rattle.serde_json.specs.View.{view, items_view}
use Rattle.serde_json.specs.declared.value.Value.{Value}

item_at_most : (vs : List Value) (i : ℕ) (d : Value) → i < length vs → depth (view (get_or vs i d)) ≤ items_depth (items_view vs)
item_at_most [] i d h = absurd (omega arith)
item_at_most (v ∷ vs) zero d h = omega arith
item_at_most (v ∷ vs) (suc i) d h = omega (arith, item_at_most vs i d (omega arith))

pub item_less : (vs : List Value) (i : ℕ) (v : Value) → i < length vs → v ≡ get_or vs i v → depth (view v) < items_depth (items_view vs) + 1
item_less vs i v h e = omega (arith, item_at_most vs i v h, ap (λ x. depth (view x)) e)

at_most_matched : (o : Ordering) (x : Option Data) (d e : Data) (n : ℕ) → (x ≡ Some e → depth e ≤ n) → match_ordering o x (Some d) x ≡ Some e → depth e ≤ max (depth d) n
at_most_matched Less x d e n h q = omega (arith, h q)
at_most_matched Equal x d e n h q = let same : d ≡ e = cc in omega (arith, ap depth same)
at_most_matched Greater x d e n h q = omega (arith, h q)

member_at_most : (name : List ℕ) (ms : Members) (e : Data) → get_member name ms ≡ Some e → depth e ≤ members_depth ms
member_at_most name no_members e q = absurd (cc)
member_at_most name (member key d ms) e q = at_most_matched (slice_cmp nat_cmp name key) (get_member name ms) d e (members_depth ms) (member_at_most name ms e) q

pub member_less : (name : List ℕ) (d e : Data) → get name d ≡ Some e → depth e < depth d
member_less name null e q = absurd (cc)
member_less name (boolean b) e q = absurd (cc)
member_less name (number n) e q = absurd (cc)
member_less name (string s) e q = absurd (cc)
member_less name (array ds) e q = absurd (cc)
member_less name (object ms) e q = omega (arith, member_at_most name ms e q)
