-- In which lists a row stands.
use Rattle.std.proofs.Common.{◌≡◌, ℕ, List, [], ◌∷◌, ◌++◌, refl, sym, ap, ◌∙◌}
use Rattle.std.specs.Prelude.{Bool, true, false, cond, not, ◌&&◌, ◌||◌, ◌==◌, Option, None, Some, is_some, flat_map}
use Rattle.std.specs.List.{list_any}
use Rattle.std.specs.declared.cmp.Ordering.{Ordering}
use Rattle.std.specs.declared.cmp.Ordering.TheVariants.{Less, Equal, Greater}
use Rattle.std.specs.Ordering.{is_eq, eq_by_cmp, nat_cmp, ordering_then}
use Rattle.std.specs.Cmp.{IsTotalOrder, Equal-is, unsigned_tied}
use Rattle.std.proofs.lemmas.Bool.{eqb-true}
use Rattle.std.proofs.Math.Bool.{and-false}
use Rattle.std.specs.FinMap as map
use Rattle.std.specs.FinSet as set
use Rattle.dv_value.specs.declared.id.Id.{Id}
use Rattle.dv_store.specs.declared.keys.RowKey.{RowKey}
use Rattle.dv_store.specs.declared.keys.Entry.{Entry}
use Rattle.dv_store.specs.declared.keys.By.{By}
use Rattle.dv_store.specs.declared.keys.By.TheVariants as by
use Rattle.dv_store.specs.declared.row.Row.{Row}
use Rattle.dv_store.specs.declared.shape.Link.{Link}
use Rattle.dv_store.specs.declared.shape.Shape.{Shape}
use Rattle.dv_store.specs.Keys.{entry_cmp, row_key, is_row, named_list}
use Rattle.dv_store.specs.World.{with_each, names, named_in, is_id}
use Rattle.dv_store.specs.Kept.{entry_by, entry_at, entry_of, entries_of, is_link, is_watched}
use Rattle.dv_store.specs.Cursors.{owner_place}
use Rattle.dv_store.specs.contracts.keys.ByOrd.TheImpl as by_order
use Rattle.dv_store.specs.Exact.{exact_row}
use mathlib.Core.Bool.{true≢false}

pub is_eq-then : (a b : Ordering) → is_eq (ordering_then a b) ≡ (is_eq a && is_eq b)
is_eq-then Less b = refl
is_eq-then Equal b = refl
is_eq-then Greater b = refl

any-append : {X : Type 0} (f : X → Bool) (xs ys : List X) → list_any f (xs ++ ys) ≡ (list_any f xs || list_any f ys)
any-append f [] ys = refl
any-append f (x ∷ xs) ys = rw (any-append f xs ys) (or_assoc (f x) (list_any f xs) (list_any f ys))
  where
    or_assoc : (a b c : Bool) → (a || (b || c)) ≡ ((a || b) || c)
    or_assoc true b c = refl
    or_assoc false b c = refl

or_turn : (a b c : Bool) → (a || (b || c)) ≡ ((b || a) || c)
or_turn true true c = refl
or_turn true false c = refl
or_turn false true c = refl
or_turn false false c = refl

or-false : (a : Bool) → (a || false) ≡ a
or-false true = refl
or-false false = refl

and_turn : (a b c : Bool) → (not a && (not b && c)) ≡ (not (b || a) && c)
and_turn true true c = refl
and_turn true false c = refl
and_turn false true c = refl
and_turn false false c = refl

Some-or : (b : Bool) (x : Option (Unit {0})) → is_some (cond b (Some tt) x) ≡ (b || is_some x)
Some-or true x = refl
Some-or false x = refl

none_or : (b : Bool) (x : Option (Unit {0})) → is_some (cond b None x) ≡ (not b && is_some x)
none_or true x = refl
none_or false x = refl

-- a set with each item of a list, and without
module _ {K : Type 0} {R : K → K → Ordering} (o : IsTotalOrder R) where
  pub contains-with_each : (ks : List K) (s : set.FinSet R) (q : K) → map.contains_key (with_each true ks s) q ≡ (list_any (eq_by_cmp R q) ks || map.contains_key s q)
  contains-with_each [] s q = refl
  contains-with_each (k ∷ ks) s q =
      contains-with_each ks (map.insert s k tt) q ∙ ap (λ b. list_any (eq_by_cmp R q) ks || b) (ap is_some (map.get-insert o s k tt q) ∙ Some-or (eq_by_cmp R q k) (map.get s q))
      ∙ or_turn (list_any (eq_by_cmp R q) ks) (eq_by_cmp R q k) (map.contains_key s q)

  pub contains-without_each : (ks : List K) (s : set.FinSet R) (q : K) → map.contains_key (with_each false ks s) q ≡ (not (list_any (eq_by_cmp R q) ks) && map.contains_key s q)
  contains-without_each [] s q = refl
  contains-without_each (k ∷ ks) s q =
      contains-without_each ks (map.remove s k) q ∙ ap (λ b. not (list_any (eq_by_cmp R q) ks) && b) (ap is_some (map.get-remove o s k q) ∙ none_or (eq_by_cmp R q k) (map.get s q))
      ∙ and_turn (list_any (eq_by_cmp R q) ks) (eq_by_cmp R q k) (map.contains_key s q)

-- whether the row of a key stands in the list of an entry, by what it names
abbrev pub lists : Shape → RowKey → Option Row → Entry → By → Bool
lists shape key row e by.Grant = false
lists shape key row e (by.Place p) = is_row (row_key e.list.table e.id) key && (is_watched shape e.list.table p && names row p e.list.of)

four : (a b c d : Bool) → ((a && (b && c)) && d) ≡ (((a && d) && b) && c)
four true true true true = refl
four true true true false = refl
four true true false true = refl
four true true false false = refl
four true false c true = refl
four true false c false = refl
four false b c d = refl

module _ (t p : ℕ) (of i : Id) (key : RowKey) (row : Option Row) where
  abbrev entry : Entry
  entry = record { list = named_list t p of; id = i }

  abbrev here : Bool
  here = is_row (row_key t i) key

  at_place : (place : ℕ) (named : Option Id) → list_any (eq_by_cmp entry_cmp entry) (entry_by key place named) ≡ ((here && (p == place)) && is_id of named)
  at_place place None = sym (and-false (here && (p == place)))
  at_place place (Some other) =
      or-false _
      ∙ is_eq-then (ordering_then (nat_cmp t key.table) (ordering_then (nat_cmp p place) (nat_cmp of.0 other.0))) (nat_cmp i.0 key.id.0)
      ∙ ap (λ b. b && is_eq (nat_cmp i.0 key.id.0)) (is_eq-then (nat_cmp t key.table) (ordering_then (nat_cmp p place) (nat_cmp of.0 other.0)) ∙ ap (λ b. is_eq (nat_cmp t key.table) && b) (is_eq-then (nat_cmp p place) (nat_cmp of.0 other.0)))
      ∙ four (is_eq (nat_cmp t key.table)) (is_eq (nat_cmp p place)) (is_eq (nat_cmp of.0 other.0)) (is_eq (nat_cmp i.0 key.id.0))
      ∙ ap (λ b. (b && is_eq (nat_cmp p place)) && is_eq (nat_cmp of.0 other.0)) (sym (is_eq-then (nat_cmp t key.table) (nat_cmp i.0 key.id.0)))
      ∙ ap (λ b. (here && b) && is_eq (nat_cmp of.0 other.0)) (unsigned_tied p place)
      ∙ ap (λ b. (here && (p == place)) && b) (unsigned_tied of.0 other.0)

  -- at the place itself
  there : (b : Bool) (place : ℕ) → (p == place) ≡ b → ((here && b) && is_id of (named_in row place)) ≡ ((here && b) && names row p of)
  there true place is = ap (λ q. (here && true) && is_id of (named_in row q)) (sym (eqb-true p place is))
  there false place is = rw (and-false here) refl

  any-entry_at : (place : ℕ) → list_any (eq_by_cmp entry_cmp entry) (entry_at key row place) ≡ ((here && (p == place)) && names row p of)
  any-entry_at place = at_place place (named_in row place) ∙ there (p == place) place refl

  -- by one relationship
  by_link : (h c d : Bool) (link : Link) → here ≡ h → (link.child == key.table) ≡ c → (link.child == t) ≡ d → (h ≡ true → c ≡ d) → list_any (eq_by_cmp entry_cmp entry) (cond c (entry_at key row link.place) []) ≡ (h && ((d && (p == link.place)) && names row p of))
  by_link false true d link is child same tied = any-entry_at link.place ∙ ap (λ b. (b && (p == link.place)) && names row p of) is
  by_link false false d link is child same tied = refl
  by_link true true true link is child same tied = any-entry_at link.place ∙ ap (λ b. (b && (p == link.place)) && names row p of) is
  by_link true false false link is child same tied = refl
  by_link true true false link is child same tied = absurd (true≢false (tied refl))
  by_link true false true link is child same tied = absurd (true≢false (sym (tied refl)))

  one_table : here ≡ true → (link : Link) → (link.child == key.table) ≡ (link.child == t)
  one_table is link = ap (λ table. link.child == table) (sym (ap (λ k. k.table) (exact_row (row_key t i) key ((Equal-is _).0 is))))

  spread : (h a b n : Bool) → ((h && (a && n)) || (h && (b && n))) ≡ (h && ((a || b) && n))
  spread true true true true = refl
  spread true true true false = refl
  spread true true false true = refl
  spread true true false false = refl
  spread true false b n = refl
  spread false a b n = refl

  any-links : (links : List Link) → list_any (eq_by_cmp entry_cmp entry) (flat_map (entry_of key row) links) ≡ (here && (list_any (is_link t p) links && names row p of))
  any-links [] = sym (and-false here)
  any-links (l ∷ ls) =
      any-append (eq_by_cmp entry_cmp entry) (entry_of key row l) (flat_map (entry_of key row) ls)
      ∙ ap (λ b. b || list_any (eq_by_cmp entry_cmp entry) (flat_map (entry_of key row) ls)) (by_link here (l.child == key.table) (l.child == t) l refl refl refl (λ is. one_table is l))
      ∙ ap (λ b. (here && ((((l.child == t) && (p == l.place))) && names row p of)) || b) (any-links ls)
      ∙ spread here ((l.child == t) && (p == l.place)) (list_any (is_link t p) ls) (names row p of)

  regroup : (h a n : Bool) → ((h && a) && n) ≡ (h && (a && n))
  regroup true a n = refl
  regroup false a n = refl

  any-place : (shape : Shape) → list_any (eq_by_cmp entry_cmp entry) (entries_of shape key row) ≡ (here && (is_watched shape t p && names row p of))
  any-place shape =
      any-append (eq_by_cmp entry_cmp entry) (entry_at key row owner_place) (flat_map (entry_of key row) shape.links)
      ∙ ap (λ b. b || list_any (eq_by_cmp entry_cmp entry) (flat_map (entry_of key row) shape.links)) (any-entry_at owner_place ∙ regroup here (p == owner_place) (names row p of))
      ∙ ap (λ b. (here && ((p == owner_place) && names row p of)) || b) (any-links shape.links)
      ∙ spread here (p == owner_place) (list_any (is_link t p) shape.links) (names row p of)

-- no row stands in a list of grants by what it names
none_by : (e : Entry) (key : RowKey) (named : Option Id) (place : ℕ) → e.list.by ≡ by.Grant → list_any (eq_by_cmp entry_cmp e) (entry_by key place named) ≡ false
none_by e key None place is = refl
none_by e key (Some of) place is =
    or-false _ ∙ ap (λ b. is_eq (ordering_then (ordering_then (nat_cmp e.list.table key.table) (ordering_then (by_order.ghosts.cmp b (by.Place place)) (nat_cmp e.list.of.0 of.0))) (nat_cmp e.id.0 key.id.0))) is
    ∙ apart (nat_cmp e.list.table key.table) (nat_cmp e.id.0 key.id.0)
  where
    apart : (a c : Ordering) → is_eq (ordering_then (ordering_then a Less) c) ≡ false
    apart Less c = refl
    apart Equal c = refl
    apart Greater c = refl

none_of : (e : Entry) (key : RowKey) (row : Option Row) (links : List Link) → e.list.by ≡ by.Grant → list_any (eq_by_cmp entry_cmp e) (flat_map (entry_of key row) links) ≡ false
none_of e key row [] is = refl
none_of e key row (l ∷ ls) is =
    any-append (eq_by_cmp entry_cmp e) (entry_of key row l) (flat_map (entry_of key row) ls)
    ∙ ap (λ b. b || list_any (eq_by_cmp entry_cmp e) (flat_map (entry_of key row) ls)) (either_way (l.child == key.table))
    ∙ none_of e key row ls is
  where
    either_way : (c : Bool) → list_any (eq_by_cmp entry_cmp e) (cond c (entry_at key row l.place) []) ≡ false
    either_way true = none_by e key (named_in row l.place) l.place is
    either_way false = refl

-- the lists in which a row stands by what it names
pub any-entries_of : (shape : Shape) (key : RowKey) (row : Option Row) (e : Entry) → list_any (eq_by_cmp entry_cmp e) (entries_of shape key row) ≡ lists shape key row e e.list.by
any-entries_of shape key row e = elim e.list.by as (λ b. e.list.by ≡ b → list_any (eq_by_cmp entry_cmp e) (entries_of shape key row) ≡ lists shape key row e b) [
  | by.Grant ↦ λ is. any-append (eq_by_cmp entry_cmp e) (entry_at key row owner_place) (flat_map (entry_of key row) shape.links)
      ∙ ap (λ b. b || list_any (eq_by_cmp entry_cmp e) (flat_map (entry_of key row) shape.links)) (none_by e key (named_in row owner_place) owner_place is)
      ∙ none_of e key row shape.links is
  | by.Place p ↦ λ is. ap (λ b. list_any (eq_by_cmp entry_cmp (record { list = record { table = e.list.table; by = b; of = e.list.of }; id = e.id })) (entries_of shape key row)) is ∙ any-place e.list.table p e.list.of e.id key row shape
] refl
