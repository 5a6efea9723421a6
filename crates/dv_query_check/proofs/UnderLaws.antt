-- Each link stands under the query's own table, or under a link before it.
use Rattle.std.proofs.Common.{◌≡◌, ◌⊎◌, inl, inr, ℕ, zero, suc, ◌+◌, ◌≤◌, ◌||◌, Bool, false, List, [], ◌∷◌, ◌++◌, length, map, codes, slice_get, Option, Some, refl, sym, ap, ◌∙◌, subst, arith}
use Rattle.std.proofs.lemmas.List.{append_assoc, length-append}
use Rattle.dv_schema.specs.declared.definition.Definition.{Definition}
use Rattle.dv_schema.specs.declared.table.Table.{Table}
use Rattle.dv_query.specs.declared.link.Link.{Link}
use Rattle.dv_query.specs.declared.link.Link.TheFolds.{ind-Link}
use Rattle.dv_query.specs.declared.query.Query.{Query}
use Rattle.dv_query_check.specs.Columns.{table_named}
use Rattle.dv_query_check.specs.Links.{LinkAt, HasTable, IsUnder, is_exists, links_in_turn, links_under, links_of}
use Rattle.dv_query_check.specs.Places.{member, item}
use Rattle.dv_query_check.proofs.AcceptedLaws.{some_same}
use Rattle.dv_query_check.proofs.FormLaws.{rolled_link, links_rolled}

item_kept : {A : Type 0} (xs ys : List A) (k : ℕ) (x : A) → slice_get xs k ≡ Some x → slice_get (xs ++ ys) k ≡ Some x
item_kept [] ys zero x at = absurd (cc)
item_kept [] ys (suc k) x at = absurd (cc)
item_kept (y ∷ xs) ys zero x at = at
item_kept (y ∷ xs) ys (suc k) x at = item_kept xs ys k x at

item_after : {A : Type 0} (xs : List A) (x : A) (ys : List A) → slice_get (xs ++ x ∷ ys) (length xs) ≡ Some x
item_after [] x ys = refl
item_after (y ∷ xs) x ys = item_after xs x ys

further : (a b : ℕ) → suc (a + b) ≡ suc a + b
further a b = omega arith

item_of_either : {A : Type 0} (xs ys : List A) (k : ℕ) (x : A) → slice_get (xs ++ ys) k ≡ Some x → (slice_get xs k ≡ Some x) ⊎ ((j : ℕ) × (k ≡ length xs + j) × (slice_get ys j ≡ Some x))
item_of_either [] ys k x at = inr (k, from_zero k, at)
  where
    from_zero : (n : ℕ) → n ≡ 0 + n
    from_zero n = omega arith
item_of_either (y ∷ xs) ys zero x at = inl at
item_of_either (y ∷ xs) ys (suc k) x at = elim (item_of_either xs ys k x at) [ inl is ↦ inl is | inr is ↦ inr (is.0, ap suc is.1 ∙ further (length xs) is.0, is.2) ]

-- the sources of a list are sources of a longer one
table_kept : (base : Option Table) (xs ys : List LinkAt) (n : ℕ) (table : Option Table) → HasTable base xs n table → HasTable base (xs ++ ys) n table
table_kept base xs ys zero table has = has
table_kept base xs ys (suc n) table has = (has.0, item_kept xs ys n has.0 has.1, has.2)

-- the links that follow others stand under those or under links before them
abbrev InOrder : Option Table → List LinkAt → List LinkAt → Type 0
InOrder base before these = (k : ℕ) (l : LinkAt) → slice_get these k ≡ Some l → IsUnder base (before ++ these) (length before + k) l

regrouped : (a b c : ℕ) → (a + b) + c ≡ a + (b + c)
regrouped a b c = omega arith

order_both : (base : Option Table) (before here rest : List LinkAt) → InOrder base before here → InOrder base (before ++ here) rest → InOrder base before (here ++ rest)
order_both base before here rest some more k l at = elim (item_of_either here rest k l at) [
  | inl is ↦
      let under = some k l is in
      subst (λ all. IsUnder base all (length before + k) l) (append_assoc before here rest)
      (record { number = under.number; earlier = under.earlier; outer = table_kept base (before ++ here) rest l.above l.outer under.outer })
  | inr is ↦
      let place : length (before ++ here) + is.0 ≡ length before + k = ap (λ n. n + is.0) (length-append before here) ∙ regrouped (length before) (length here) is.0 ∙ ap (λ n. length before + n) (sym is.1) in
      subst (λ all. IsUnder base all (length before + k) l) (append_assoc before here rest)
      (subst (λ n. IsUnder base ((before ++ here) ++ rest) n l) place (more is.0 l is.2))
]

order_one : (base : Option Table) (before : List LinkAt) (l : LinkAt) → l.number ≡ length before + 1 → l.above ≤ length before → HasTable base before l.above l.outer → InOrder base before (l ∷ [])
order_one base before l number earlier outer zero m at = subst (IsUnder base (before ++ l ∷ []) (length before + 0)) (some_same l m at)
    (record { number = omega (arith, number); earlier = omega (arith, earlier); outer = table_kept base before (l ∷ []) l.above l.outer outer })
order_one base before l number earlier outer (suc k) m at = absurd (cc)

abbrev ComeInOrder : Definition → Link → Type 0
ComeInOrder d link = (outer : Option Table) (hidden : Bool) (above number : ℕ) (place : List ℕ) (base : Option Table) (before : List LinkAt)
    → number ≡ length before + 1 → above ≤ length before → HasTable base before above outer → InOrder base before (links_under d outer hidden above link number place)

longer : (before here : List LinkAt) (number : ℕ) → number ≡ length before + 1 → number + length here ≡ length (before ++ here) + 1
longer before here number e = omega (arith, e, length-append before here)

turns_in_order : (d : Definition) (ls : List ((l : Link) × ComeInOrder d l)) (outer : Option Table) (hidden : Bool) (above number i : ℕ) (place : List ℕ) (base : Option Table) (before : List LinkAt)
    → number ≡ length before + 1 → above ≤ length before → HasTable base before above outer → InOrder base before (links_in_turn place i number (map (links_under d outer hidden above) (map (λ e. e.0) ls)))
unfolding links_in_turn
turns_in_order d [] outer hidden above number i place base before e1 e2 has zero l at = absurd (cc)
turns_in_order d [] outer hidden above number i place base before e1 e2 has (suc k) l at = absurd (cc)
turns_in_order d (e ∷ ls) outer hidden above number i place base before e1 e2 has k l at =
    let here = links_under d outer hidden above e.0 number (item place i) in
    let rest = links_in_turn place (i + 1) (number + length here) (map (links_under d outer hidden above) (map (λ f. f.0) ls)) in
    order_both base before here rest
    (e.1 outer hidden above number (item place i) base before e1 e2 has)
    (turns_in_order d ls outer hidden above (number + length here) (i + 1) place base (before ++ here) (longer before here number e1) (omega (arith, e2, length-append before here)) (table_kept base before here above outer has))
    k l at

link_in_order : (d : Definition) (link : Link) → ComeInOrder d link
link_in_order d = ind-Link (ComeInOrder d) (λ x y is outer hidden above number place base before e1 e2 has.
    let table = table_named d x.table in
    let under = hidden || is_exists x.join in
    let head = rolled_link d x outer hidden above number place in
    let next : number ≡ suc (length before) = omega (arith, e1) in
    let known : HasTable base (before ++ head ∷ []) number table = subst (λ n. HasTable base (before ++ head ∷ []) n table) (sym next) (head, item_after before head [], refl) in
    let turns = turns_in_order d y.links table under number (number + 1) 0 (member place (codes "links")) base (before ++ head ∷ []) (longer before (head ∷ []) number e1) (omega (arith, e1, length-append before (head ∷ []))) known in
    let inner = subst (λ z. InOrder base (before ++ head ∷ []) (links_in_turn (member place (codes "links")) 0 (number + 1) (map (links_under d table under number) z.links))) is turns in
    subst (InOrder base before) (sym (links_rolled d x outer hidden above number place)) (order_both base before (head ∷ []) (links_in_turn (member place (codes "links")) 0 (number + 1) (map (links_under d table under number) x.links)) (order_one base before head e1 e2 has) inner))

all_in_order : (d : Definition) (ls : List Link) (number i : ℕ) (place : List ℕ) (base : Option Table) (before : List LinkAt) → number ≡ length before + 1 → InOrder base before (links_in_turn place i number (map (links_under d base false 0) ls))
unfolding links_in_turn
all_in_order d [] number i place base before e zero l at = absurd (cc)
all_in_order d [] number i place base before e (suc k) l at = absurd (cc)
all_in_order d (x ∷ ls) number i place base before e k l at =
    let here = links_under d base false 0 x number (item place i) in
    let rest = links_in_turn place (i + 1) (number + length here) (map (links_under d base false 0) ls) in
    order_both base before here rest
    (link_in_order d x base false 0 number (item place i) base before e (omega arith) refl)
    (all_in_order d ls (number + length here) (i + 1) place base (before ++ here) (longer before here number e))
    k l at

none_before : (k : ℕ) → 0 + k ≡ k
none_before k = omega arith

-- the links of a query come in order
pub in_order : (d : Definition) (q : Query) (k : ℕ) (l : LinkAt) → slice_get (links_of d q) k ≡ Some l → IsUnder (table_named d q.table) (links_of d q) k l
unfolding links_of
in_order d q k l at = subst (λ n. IsUnder (table_named d q.table) (links_of d q) n l) (none_before k) (all_in_order d q.links 1 0 (codes "links") (table_named d q.table) [] (refl) k l at)
