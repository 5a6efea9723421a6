-- One walk over rows and over lookups, both in order, makes the changes of a deletion.
use Rattle.std.proofs.Common.{◌≡◌, refl, sym, ap, subst, ◌∙◌, ℕ, zero, suc, ◌+◌, ◌<◌, ◌⊎◌, inl, inr, Bool, true, false, cond, List, [], ◌∷◌, ◌++◌, append_assoc, append-nil, length, length-drop, take, drop, map, arith, is_some, nat_eq, eqb-true, one-add, ◌-◌}
use Rattle.std.proofs.lemmas.Bool.{true≢false}
use Rattle.std.proofs.lemmas.List.Folds.{list_any-append}
use Rattle.std.specs.Prelude.{IsTrue, ◌||◌, None, Some}
use Rattle.std.specs.List.{AllByRecursion, prefix_len}
use Rattle.std.specs.List.Sorted.{IsStrictlySortedBy}
use Rattle.std.specs.declared.cmp.Ordering.{Ordering}
use Rattle.std.specs.declared.cmp.Ordering.TheVariants.{Less, Equal, Greater}
use Rattle.std.specs.Ordering.{is_eq, is_lt, ordering_then, ordering_reverse}
use Rattle.dv_store.specs.declared.keys.RowKey.{RowKey}
use Rattle.dv_store.specs.Exact.{exact_row}
use Rattle.dv_store.specs.Keys.{is_row, row_cmp}
use Rattle.dv_cascade.specs.declared.lookup.LookupKey.{LookupKey}
use Rattle.dv_cascade.specs.Chains.{is_among, AreExactly}
use Rattle.dv_cascade.specs.Removal.{lookup_cmp}
use Rattle.dv_cascade.proofs.Among.{row_total, itself, row_is, or-left, or-right, or-split}
use Rattle.dv_message.specs.Scenes.{Setting}
use Rattle.dv_write.specs.declared.change.Change.{Change}
use Rattle.dv_write.specs.declared.change.Edit.{Edit}
use Rattle.dv_write.specs.declared.change.Edit.TheVariants.{Remove, Set}
use Rattle.dv_write.specs.Deleting.{deletion_of, edit_by, emptied, is_hit, lookups_of}
use Rattle.dv_write.specs.Effects.{touched}
use Rattle.dv_write.specs.Losing.{edit_of, first_row, is_loser, AreChanges, AreOrdered}

-- a row is behind another, or not before it
abbrev After : RowKey → RowKey → Type 0
After row key = row_cmp row key ≡ Less

abbrev From : RowKey → RowKey → Type 0
From row key = (key ≡ row) ⊎ After row key

not_after : (row key : RowKey) → After row key → is_row key row ≡ false
not_after row key h = ap is_eq (row_total.antisymm key row ∙ ap ordering_reverse h)

after_itself : (row : RowKey) → After row row → ⊥
after_itself row h = true≢false (sym (itself row) ∙ ap is_eq h)

after_on : (row a b : RowKey) → After row a → From a b → After row b
after_on row a b h (inl e) = ap (row_cmp row) e ∙ h
after_on row a b h (inr l) = row_total.trans row a b h l

from_on : (row a b : RowKey) → From row a → From a b → From row b
from_on row a b (inl e) (inl f) = inl (f ∙ e)
from_on row a b (inl e) (inr l) = inr (ap (λ k. row_cmp k b) (sym e) ∙ l)
from_on row a b (inr h) f = inr (after_on row a b h f)

from_not : (a b : RowKey) → is_lt (row_cmp a b) ≡ false → From b a
from_not a b not = of (row_cmp a b) refl
  where
    of : (r : Ordering) → row_cmp a b ≡ r → From b a
    of Less e = absurd (true≢false (sym (ap is_lt e) ∙ not))
    of Equal e = inl (exact_row a b e)
    of Greater e = inr (row_total.antisymm b a ∙ ap ordering_reverse e)

from_less : (a b : RowKey) → is_lt (row_cmp a b) ≡ true → After a b
from_less a b is = of (row_cmp a b) refl
  where
    of : (r : Ordering) → row_cmp a b ≡ r → After a b
    of Less e = e
    of Equal e = absurd (true≢false (sym is ∙ ap is_lt e))
    of Greater e = absurd (true≢false (sym is ∙ ap is_lt e))

then-Less : (r s : Ordering) → ordering_then r s ≡ Less → (r ≡ Less) ⊎ (r ≡ Equal)
then-Less Less s e = inl refl
then-Less Equal s e = inr refl
then-Less Greater s e = absurd (true≢false (sym (ap is_lt e)))

-- lookups in order are in the order of their rows
lookup_from : (a b : LookupKey) → lookup_cmp a b ≡ Less → From a.row b.row
lookup_from a b e = of (then-Less _ _ e)
  where
    of : (row_cmp a.row b.row ≡ Less) ⊎ (row_cmp a.row b.row ≡ Equal) → From a.row b.row
    of (inl l) = inr l
    of (inr q) = inl (sym (exact_row a.row b.row q))

all_rows : (rows : List RowKey) (row key : RowKey) → AllByRecursion (λ k. After row k) rows → IsTrue (is_among rows key) → After row key
all_rows [] row key all h = absurd (true≢false (sym h))
all_rows (r ∷ rows) row key all h = of (or-split (is_row key r) (is_among rows key) h) (all_rows rows row key all.1)
  where
    of : IsTrue (is_row key r) ⊎ IsTrue (is_among rows key) → (IsTrue (is_among rows key) → After row key) → After row key
    of (inl is) later = ap (row_cmp row) (row_is key r is) ∙ all.0
    of (inr there) later = later there

from_rows : (rows : List RowKey) (row key : RowKey) → AllByRecursion (λ k. From row k) rows → IsTrue (is_among rows key) → From row key
from_rows [] row key all h = absurd (true≢false (sym h))
from_rows (r ∷ rows) row key all h = of (or-split (is_row key r) (is_among rows key) h) (from_rows rows row key all.1)
  where
    of : IsTrue (is_row key r) ⊎ IsTrue (is_among rows key) → (IsTrue (is_among rows key) → From row key) → From row key
    of (inl is) later = subst (λ k. From row k) (sym (row_is key r is)) all.0
    of (inr there) later = later there

all_losers : (lookups : List LookupKey) (row key : RowKey) → AllByRecursion (λ m. After row m.row) lookups → IsTrue (is_loser lookups key) → After row key
all_losers [] row key all h = absurd (true≢false (sym h))
all_losers (l ∷ lookups) row key all h = of (or-split (is_row key l.row) (is_loser lookups key) h) (all_losers lookups row key all.1)
  where
    of : IsTrue (is_row key l.row) ⊎ IsTrue (is_loser lookups key) → (IsTrue (is_loser lookups key) → After row key) → After row key
    of (inl is) later = ap (row_cmp row) (row_is key l.row is) ∙ all.0
    of (inr there) later = later there

rows_on : (row r : RowKey) (rows : List RowKey) → From row r → AllByRecursion (λ k. After r k) rows → AllByRecursion (λ k. From row k) rows
rows_on row r [] from all = tt
rows_on row r (k ∷ rows) from all = (from_on row r k from (inr all.0), rows_on row r rows from all.1)

lookups_on : (row : RowKey) (l : LookupKey) (lookups : List LookupKey) → From row l.row → AllByRecursion (λ m. lookup_cmp l m ≡ Less) lookups → AllByRecursion (λ m. From row m.row) lookups
lookups_on row l [] from all = tt
lookups_on row l (m ∷ lookups) from all = (from_on row l.row m.row from (lookup_from l m all.0), lookups_on row l lookups from all.1)

lookups_after : (row : RowKey) (l : LookupKey) (lookups : List LookupKey) → After row l.row → AllByRecursion (λ m. lookup_cmp l m ≡ Less) lookups → AllByRecursion (λ m. After row m.row) lookups
lookups_after row l [] after all = tt
lookups_after row l (m ∷ lookups) after all = (after_on row l.row m.row after (lookup_from l m all.0), lookups_after row l lookups after all.1)

-- lookups that begin with those of a row
record Cut (row : RowKey) (left run later : List LookupKey) : Type 0 where
  joined : left ≡ run ++ later
  own : AllByRecursion (λ m. m.row ≡ row) run
  after : AllByRecursion (λ m. After row m.row) later
  sorted : IsStrictlySortedBy lookup_cmp later

abbrev count : RowKey → List LookupKey → ℕ
count row left = prefix_len (λ lookup. is_row row lookup.row) left

cut : (row : RowKey) (left : List LookupKey) → AllByRecursion (λ m. From row m.row) left → IsStrictlySortedBy lookup_cmp left → Cut row left (take (count row left) left) (drop (count row left) left)
unfolding IsStrictlySortedBy
cut row [] all sorted = record { joined = refl; own = tt; after = tt; sorted = tt }
cut row (l ∷ ls) all sorted = of (is_row row l.row) refl (cut row ls all.1 sorted.1)
  where
    front : is_row row l.row ≡ false → From row l.row → After row l.row
    front not (inl e) = absurd (true≢false (sym (itself row) ∙ sym (ap (is_row row) e) ∙ not))
    front not (inr h) = h

    of : (b : Bool) → is_row row l.row ≡ b → Cut row ls (take (count row ls) ls) (drop (count row ls) ls) → Cut row (l ∷ ls) (take (cond b (1 + count row ls) 0) (l ∷ ls)) (drop (cond b (1 + count row ls) 0) (l ∷ ls))
    of true is rest = subst (λ n. Cut row (l ∷ ls) (take n (l ∷ ls)) (drop n (l ∷ ls))) (sym (one-add (count row ls))) (record { joined = ap (λ xs. l ∷ xs) rest.joined; own = (sym (row_is row l.row is), rest.own); after = rest.after; sorted = rest.sorted })
    of false is rest = let h = front is all.0 in record { joined = refl; own = tt; after = (h, lookups_after row l ls h sorted.0); sorted = sorted }

module _ (row : RowKey) where
  any_past : (key : RowKey) (run later : List LookupKey) → AllByRecursion (λ m. m.row ≡ row) run → After row key → is_loser (run ++ later) key ≡ is_loser later key
  any_past key [] later own h = refl
  any_past key (m ∷ run) later own h = ap (λ b. b || is_loser (run ++ later) key) (ap (is_row key) own.0 ∙ not_after row key h) ∙ any_past key run later own.1 h

  any_from : (key : RowKey) (run later : List LookupKey) → AllByRecursion (λ m. m.row ≡ row) run → AllByRecursion (λ m. After row m.row) later → IsTrue (is_loser (run ++ later) key) → From row key
  any_from key [] later own after h = inr (all_losers later row key after h)
  any_from key (m ∷ run) later own after h = of (or-split (is_row key m.row) (is_loser (run ++ later) key) h) (any_from key run later own.1 after)
    where
      of : IsTrue (is_row key m.row) ⊎ IsTrue (is_loser (run ++ later) key) → (IsTrue (is_loser (run ++ later) key) → From row key) → From row key
      of (inl is) behind = inl (row_is key m.row is ∙ own.0)
      of (inr there) behind = behind there

  of_past : (key : RowKey) (run later : List LookupKey) → AllByRecursion (λ m. m.row ≡ row) run → After row key → lookups_of (run ++ later) key ≡ lookups_of later key
  of_past key [] later own h = refl
  of_past key (m ∷ run) later own h = ap (λ b. cond b (m ∷ lookups_of (run ++ later) key) (lookups_of (run ++ later) key)) (ap (is_row key) own.0 ∙ not_after row key h) ∙ of_past key run later own.1 h

  of_none : (later : List LookupKey) → AllByRecursion (λ m. After row m.row) later → lookups_of later row ≡ []
  of_none [] after = refl
  of_none (m ∷ later) after = ap (λ b. cond b (m ∷ lookups_of later row) (lookups_of later row)) (ap is_eq after.0) ∙ of_none later after.1

  of_own : (run later : List LookupKey) → AllByRecursion (λ m. m.row ≡ row) run → AllByRecursion (λ m. After row m.row) later → lookups_of (run ++ later) row ≡ run
  of_own [] later own after = of_none later after
  of_own (m ∷ run) later own after = ap (λ b. cond b (m ∷ lookups_of (run ++ later) row) (lookups_of (run ++ later) row)) (ap (is_row row) own.0 ∙ itself row) ∙ ap (λ xs. m ∷ xs) (of_own run later own.1 after)

-- a row stands in front of what rows and lookups leave
record Fronts (s : Setting) (rows : List RowKey) (left : List LookupKey) (row : RowKey) (edit : Edit) (rows' : List RowKey) (left' : List LookupKey) : Type 0 where
  hit : IsTrue (is_hit rows left row)
  least : (key : RowKey) → IsTrue (is_hit rows left key) → From row key
  alike : (key : RowKey) → After row key → is_hit rows left key ≡ is_hit rows' left' key
  past : (key : RowKey) → IsTrue (is_hit rows' left' key) → After row key
  edit_is : edit_by s rows left row ≡ edit
  edits : (key : RowKey) → After row key → edit_by s rows left key ≡ edit_by s rows' left' key
  ordered : AreOrdered rows' left'

all_of : (row : RowKey) (keys : List RowKey) → ((key : RowKey) → IsTrue (is_among keys key) → After row key) → AllByRecursion (λ k. After row k) keys
all_of row [] h = tt
all_of row (k ∷ keys) h = (h k (or-left (is_row k k) (is_among keys k) (itself k)), all_of row keys (λ key m. h key (or-right (is_row key k) (is_among keys key) m)))

-- its change stands in front of theirs
joins : (s : Setting) (rows rows' : List RowKey) (left left' : List LookupKey) (row : RowKey) (edit : Edit) → Fronts s rows left row edit rows' left' → (changes : List Change) → AreChanges s rows' left' changes
    → AreChanges s rows left (record { key = row; edit = edit } ∷ changes)
unfolding IsStrictlySortedBy
joins s rows rows' left left' row edit f changes told = (row ∷ keys, record { ascending = (before, exact.ascending); exactly = λ key. (to key, from key) }, is)
  where
    keys : List RowKey
    keys = told.0

    exact : AreExactly row_cmp (λ key. IsTrue (is_hit rows' left' key)) keys
    exact = told.1

    before : AllByRecursion (λ k. After row k) keys
    before = all_of row keys (λ key m. f.past key ((exact.exactly key).0 m))

    to : (key : RowKey) → IsTrue (is_among (row ∷ keys) key) → IsTrue (is_hit rows left key)
    to key h = of (or-split (is_row key row) (is_among keys key) h)
      where
        of : IsTrue (is_row key row) ⊎ IsTrue (is_among keys key) → IsTrue (is_hit rows left key)
        of (inl is) = subst (λ k. IsTrue (is_hit rows left k)) (sym (row_is key row is)) f.hit
        of (inr m) = let there = (exact.exactly key).0 m in f.alike key (f.past key there) ∙ there

    from : (key : RowKey) → IsTrue (is_hit rows left key) → IsTrue (is_among (row ∷ keys) key)
    from key h = of (f.least key h)
      where
        of : From row key → IsTrue (is_among (row ∷ keys) key)
        of (inl e) = or-left (is_row key row) (is_among keys key) (ap (λ k. is_row k row) e ∙ itself row)
        of (inr after) = or-right (is_row key row) (is_among keys key) ((exact.exactly key).1 (sym (f.alike key after) ∙ h))

    each : (ks : List RowKey) → AllByRecursion (λ k. After row k) ks → map (deletion_of s rows left) ks ≡ map (deletion_of s rows' left') ks
    each [] all = refl
    each (k ∷ ks) all = ap (λ e. record { key = k; edit = e } ∷ map (deletion_of s rows left) ks) (f.edits k all.0) ∙ ap (λ cs. deletion_of s rows' left' k ∷ cs) (each ks all.1)

    is : record { key = row; edit = edit } ∷ changes ≡ map (deletion_of s rows left) (row ∷ keys)
    is = ap (λ e. record { key = row; edit = e } ∷ changes) (sym f.edit_is) ∙ ap (λ cs. deletion_of s rows left row ∷ cs) (told.2 ∙ sym (each keys before))

-- a row of the set that goes
goes : (s : Setting) (row : RowKey) (rest : List RowKey) (left : List LookupKey) → AreOrdered (row ∷ rest) left → AllByRecursion (λ m. After row m.row) left → Fronts s (row ∷ rest) left row (edit_of s []) rest left
unfolding edit_by edit_of IsStrictlySortedBy
goes s row rest left o after = record {
  hit = or-left (is_among (row ∷ rest) row) (is_loser left row) (or-left (is_row row row) (is_among rest row) (itself row));
  least = λ key h. least key (or-split (is_among (row ∷ rest) key) (is_loser left key) h);
  alike = λ key h. ap (λ b. (b || is_among rest key) || is_loser left key) (not_after row key h);
  past = λ key h. past key (or-split (is_among rest key) (is_loser left key) h);
  edit_is = ap (λ b. cond b Remove (Set (map emptied (lookups_of left row) ++ touched s))) (or-left (is_row row row) (is_among rest row) (itself row));
  edits = λ key h. ap (λ b. cond (b || is_among rest key) Remove (Set (map emptied (lookups_of left key) ++ touched s))) (not_after row key h);
  ordered = record { by_row = o.by_row.1; by_lookup = o.by_lookup; outside = λ key m. o.outside key (or-right (is_row key row) (is_among rest key) m) };
}
  where
    least : (key : RowKey) → IsTrue (is_among (row ∷ rest) key) ⊎ IsTrue (is_loser left key) → From row key
    least key (inl m) = of (or-split (is_row key row) (is_among rest key) m)
      where
        of : IsTrue (is_row key row) ⊎ IsTrue (is_among rest key) → From row key
        of (inl is) = inl (row_is key row is)
        of (inr later) = inr (all_rows rest row key o.by_row.0 later)
    least key (inr loses) = inr (all_losers left row key after loses)

    past : (key : RowKey) → IsTrue (is_among rest key) ⊎ IsTrue (is_loser left key) → After row key
    past key (inl m) = all_rows rest row key o.by_row.0 m
    past key (inr loses) = all_losers left row key after loses

-- a row outside the set that loses lookups
loses : (s : Setting) (rows : List RowKey) (row : RowKey) (l : LookupKey) (run later : List LookupKey) → AreOrdered rows ((l ∷ run) ++ later) → AllByRecursion (λ k. From row k) rows
    → AllByRecursion (λ m. m.row ≡ row) (l ∷ run) → AllByRecursion (λ m. After row m.row) later → IsStrictlySortedBy lookup_cmp later → Fronts s rows ((l ∷ run) ++ later) row (edit_of s (l ∷ run)) rows later
unfolding edit_by edit_of IsStrictlySortedBy
loses s rows row l run later o from own after sorted = record {
  hit = or-right (is_among rows row) (is_loser left row) loser;
  least = λ key h. least key (or-split (is_among rows key) (is_loser left key) h);
  alike = λ key h. ap (λ b. is_among rows key || b) (any_past row key (l ∷ run) later own h);
  past = λ key h. past key (or-split (is_among rows key) (is_loser later key) h);
  edit_is = ap (λ b. cond b Remove (Set (map emptied (lookups_of left row) ++ touched s))) (out (is_among rows row) refl) ∙ ap (λ xs. Set (map emptied xs ++ touched s)) (of_own row (l ∷ run) later own after);
  edits = λ key h. ap (λ xs. cond (is_among rows key) Remove (Set (map emptied xs ++ touched s))) (of_past row key (l ∷ run) later own h);
  ordered = record { by_row = o.by_row; by_lookup = sorted; outside = λ key m h. o.outside key m (list_any-append (λ lookup. is_row key lookup.row) (l ∷ run) later ∙ or-right (is_loser (l ∷ run) key) (is_loser later key) h) };
}
  where
    left : List LookupKey
    left = (l ∷ run) ++ later

    loser : IsTrue (is_loser left row)
    loser = or-left (is_row row l.row) (is_loser (run ++ later) row) (ap (is_row row) own.0 ∙ itself row)

    behind : (key : RowKey) → IsTrue (is_among rows key) → From row key → After row key
    behind key m (inl e) = absurd (o.outside row (subst (λ k. IsTrue (is_among rows k)) e m) loser)
    behind key m (inr h) = h

    out : (b : Bool) → is_among rows row ≡ b → is_among rows row ≡ false
    out true m = absurd (after_itself row (behind row m (from_rows rows row row from m)))
    out false m = m

    least : (key : RowKey) → IsTrue (is_among rows key) ⊎ IsTrue (is_loser left key) → From row key
    least key (inl m) = from_rows rows row key from m
    least key (inr h) = any_from row key (l ∷ run) later own after h

    past : (key : RowKey) → IsTrue (is_among rows key) ⊎ IsTrue (is_loser later key) → After row key
    past key (inl m) = behind key m (from_rows rows row key from m)
    past key (inr h) = all_losers later row key after h

-- the first row of both lists is before all others; where no lookups are its own it is the first of the rows
record Least (rows : List RowKey) (left : List LookupKey) (row : RowKey) : Type 0 where
  of_rows : AllByRecursion (λ k. From row k) rows
  of_lookups : AllByRecursion (λ m. From row m.row) left
  in_front : count row left ≡ 0 → (rest : List RowKey) × (rows ≡ row ∷ rest)

same_row : (a b : RowKey) → Some a ≡ Some b → a ≡ b
same_row a b e = cc

some_own : {A : Type 0} (row : RowKey) (l : LookupKey) (ls : List LookupKey) → l.row ≡ row → count row (l ∷ ls) ≡ 0 → A
some_own row l ls e none = absurd (never (count row ls) (sym (ap (λ b. cond b (1 + count row ls) 0) (ap (is_row row) e ∙ itself row)) ∙ none))
  where
    never : (n : ℕ) → 1 + n ≡ 0 → ⊥
    never n h = omega (arith, h)

least : (rows : List RowKey) (left : List LookupKey) (row : RowKey) → AreOrdered rows left → first_row rows left ≡ Some row → Least rows left row
unfolding first_row IsStrictlySortedBy
least [] [] row o e = absurd (true≢false (sym (ap is_some e)))
least (r ∷ rs) [] row o e = let is = same_row r row e in record { of_rows = (inl is, rows_on row r rs (inl is) o.by_row.0); of_lookups = tt; in_front = λ none. (rs, ap (λ k. k ∷ rs) is) }
least [] (l ∷ ls) row o e = let is = same_row l.row row e in record { of_rows = tt; of_lookups = (inl is, lookups_on row l ls (inl is) o.by_lookup.0); in_front = λ none. some_own row l ls is none }
least (r ∷ rs) (l ∷ ls) row o e = of (is_lt (row_cmp r l.row)) refl e
  where
    of : (b : Bool) → is_lt (row_cmp r l.row) ≡ b → Some (cond b r l.row) ≡ Some row → Least (r ∷ rs) (l ∷ ls) row
    of true less e =
        let is = same_row r row e in
        let from = subst (λ k. From k l.row) is (inr (from_less r l.row less)) in
        record { of_rows = (inl is, rows_on row r rs (inl is) o.by_row.0); of_lookups = (from, lookups_on row l ls from o.by_lookup.0); in_front = λ none. (rs, ap (λ k. k ∷ rs) is) }
    of false not e =
        let is = same_row l.row row e in
        let from = subst (λ k. From k r) is (from_not r l.row not) in
        record { of_rows = (from, rows_on row r rs from o.by_row.0); of_lookups = (inl is, lookups_on row l ls (inl is) o.by_lookup.0); in_front = λ none. some_own row l ls is none }

abbrev rows_left : ℕ → List RowKey → List RowKey
rows_left n rows = drop (cond (nat_eq n 0) 1 0) rows

not_zero : (n : ℕ) → nat_eq (suc n) 0 ≡ false
not_zero n = of (nat_eq (suc n) 0) refl
  where
    of : (b : Bool) → nat_eq (suc n) 0 ≡ b → nat_eq (suc n) 0 ≡ false
    of true is = absurd (omega (arith, eqb-true (suc n) 0 is))
    of false is = is

all_left : (n : ℕ) (rows : List RowKey) → rows_left (suc n) rows ≡ rows
all_left n rows = ap (λ b. drop (cond b 1 0) rows) (not_zero n)

fronts : (s : Setting) (rows : List RowKey) (left : List LookupKey) (row : RowKey) → AreOrdered rows left → Least rows left row → (n : ℕ) → count row left ≡ n → Cut row left (take n left) (drop n left)
    → Fronts s rows left row (edit_of s (take n left)) (rows_left n rows) (drop n left)
fronts s rows left row o h zero none c =
    let front = h.in_front none in
    subst (λ rs. Fronts s rs left row (edit_of s []) (drop 1 rs) left) (sym front.1) (goes s row front.0 left (subst (λ rs. AreOrdered rs left) front.1 o) c.after)
fronts s rows [] row o h (suc n) some c = absurd (never n some)
  where
    never : (n : ℕ) → 0 ≡ suc n → ⊥
    never n h = omega (arith, h)
fronts s rows (l ∷ ls) row o h (suc n) some c =
    subst (λ rs. Fronts s rows (l ∷ ls) row (edit_of s (l ∷ take n ls)) rs (drop n ls)) (sym (all_left n rows)) (subst (λ xs. Fronts s rows xs row (edit_of s (l ∷ take n ls)) rows (drop n ls)) (sym c.joined) (loses s rows row l (take n ls) (drop n ls) (subst (λ xs. AreOrdered rows xs) c.joined o) h.of_rows c.own c.after c.sorted))

-- one step of the walk
pub steps : (s : Setting) (set rows : List RowKey) (lookups left lost behind : List LookupKey) (row : RowKey) (n : ℕ) (edit : Edit) (before after : List Change) → AreOrdered rows left → first_row rows left ≡ Some row → n ≡ count row left
    → lost ≡ take n left → behind ≡ drop n left → edit ≡ edit_of s lost → after ≡ before ++ record { key = row; edit = edit } ∷ []
    → ((changes : List Change) → AreChanges s rows left changes → AreChanges s set lookups (before ++ changes))
    → AreOrdered (rows_left n rows) behind × ((changes : List Change) → AreChanges s (rows_left n rows) behind changes → AreChanges s set lookups (after ++ changes))
steps s set rows lookups left lost behind row n edit before after o first is lost-is behind-is edit-is after-is told = (
  subst (λ xs. AreOrdered (rows_left n rows) xs) (sym behind-is) f.ordered,
  λ changes h. subst (λ cs. AreChanges s set lookups (cs ++ changes)) (sym after-is) (subst (λ cs. AreChanges s set lookups cs) (sym (append_assoc before (record { key = row; edit = edit } ∷ []) changes))
      (told (record { key = row; edit = edit } ∷ changes) (joins s rows (rows_left n rows) left (drop n left) row edit g changes (subst (λ xs. AreChanges s (rows_left n rows) xs changes) behind-is h)))),
)
  where
    h : Least rows left row
    h = least rows left row o first

    f : Fronts s rows left row (edit_of s (take n left)) (rows_left n rows) (drop n left)
    f = fronts s rows left row o h n (sym is) (subst (λ k. Cut row left (take k left) (drop k left)) (sym is) (cut row left h.of_lookups o.by_lookup))

    g : Fronts s rows left row edit (rows_left n rows) (drop n left)
    g = subst (λ e. Fronts s rows left row e (rows_left n rows) (drop n left)) (sym (edit-is ∙ ap (edit_of s) lost-is)) f

-- each step leaves less
pub shrinks : (rows rows' : List RowKey) (left behind : List LookupKey) (row : RowKey) (n : ℕ) → AreOrdered rows left → first_row rows left ≡ Some row → n ≡ count row left → rows' ≡ rows_left n rows → behind ≡ drop n left
    → length rows' + length behind < length rows + length left
shrinks rows rows' left behind row n o first is rows-is behind-is = subst (λ rs. length rs + length behind < length rows + length left) (sym rows-is) (subst (λ xs. length (rows_left n rows) + length xs < length rows + length left) (sym behind-is) (of rows left n (least rows left row o first) (sym is)))
  where
    of : (rows : List RowKey) (left : List LookupKey) (n : ℕ) → Least rows left row → count row left ≡ n → length (rows_left n rows) + length (drop n left) < length rows + length left
    of rows left zero h none = let front = h.in_front none in subst (λ rs. length (drop 1 rs) + length left < length rs + length left) (sym front.1) (one (length front.0) (length left))
      where
        one : (a b : ℕ) → a + b < suc a + b
        one a b = omega arith
    of rows [] (suc n) h some = absurd (never n some)
      where
        never : (n : ℕ) → 0 ≡ suc n → ⊥
        never n h = omega (arith, h)
    of rows (l ∷ ls) (suc n) h some = subst (λ rs. length rs + length (drop n ls) < length rows + suc (length ls)) (sym (all_left n rows)) (more (length rows) (length (drop n ls)) (length ls) n (length-drop n ls))
      where
        more : (a b c n : ℕ) → b ≡ c - n → a + b < a + suc c
        more a b c n e = omega (arith, e)

-- at the end there is nothing left to change
pub ends : (s : Setting) (set rows : List RowKey) (lookups left : List LookupKey) (changes : List Change) → first_row rows left ≡ None → ((later : List Change) → AreChanges s rows left later → AreChanges s set lookups (changes ++ later)) → AreChanges s set lookups changes
unfolding first_row IsStrictlySortedBy
ends s set [] lookups [] changes none told = subst (λ cs. AreChanges s set lookups cs) (append-nil changes) (told [] ([], record { ascending = tt; exactly = λ key. (λ h. absurd (true≢false (sym h)), λ h. absurd (true≢false (sym h))) }, refl))
ends s set (r ∷ rs) lookups [] changes none told = absurd (true≢false (ap is_some none))
ends s set [] lookups (l ∷ ls) changes none told = absurd (true≢false (ap is_some none))
ends s set (r ∷ rs) lookups (l ∷ ls) changes none told = absurd (true≢false (ap is_some none))
