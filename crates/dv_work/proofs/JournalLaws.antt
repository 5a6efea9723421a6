-- Journals with one more change, and without their last one.
use Rattle.std.proofs.Common.{◌≡◌, ℕ, ◌+◌, ◌-◌, ◌≤◌, ◌<◌, subst, length, length-append, arith, is_some, List, [], ◌∷◌, ◌++◌, refl, sym, ap, ◌∙◌}
use mir.Val.{bool_byte}
use Rattle.std.specs.Prelude.{Option, None, Some, cond, Bool, true, false, count_by}
use Rattle.std.specs.declared.cmp.Ordering.{Ordering}
use Rattle.std.specs.Cmp.{IsTotalOrder}
use Rattle.std.specs.Map.{lookup}
use Rattle.std.specs.BTreeMap.{insert_entry, is_at}
use Rattle.std.proofs.lemmas.List.Sums.{sum_by-cons, sum_by-append, count_by-le-length}
use Rattle.std.proofs.lemmas.Map.Lookups.{CmpEqualImpliesEq}
use Rattle.dv_work.specs.declared.journal.Change.{Change}
use Rattle.dv_work.specs.Entries.{Ascends, with_place}
use Rattle.dv_work.specs.History.{with_change, back_at}
use Rattle.dv_work.specs.Journal.{before, before_all, states_of, kept_count, HasPlace, HasPlaces, entries_of, history_of, IsWhole}
use Rattle.dv_work.proofs.EntryLaws.{value_at-with_value_same}
use Rattle.dv_work.proofs.HistoryLaws.{back_at-undone}
use Rattle.dv_work.proofs.PlaceLaws.{with_old_place-with_value, entries_of-put, entries_of-take}

-- a state before the others, where it is kept
joined : {A : Type 0} (kept : Bool) (x : A) (xs ys : List A) → cond kept (x ∷ xs ++ ys) (xs ++ ys) ≡ cond kept (x ∷ xs) xs ++ ys
joined true x xs ys = refl
joined false x xs ys = refl

length-joined : {A : Type 0} (kept : Bool) (x : A) (xs : List A) → length (cond kept (x ∷ xs) xs) ≡ cond kept 1 0 + length xs
length-joined true x xs = omega arith
length-joined false x xs = omega arith

pub bool_byte-le : (b : Bool) → bool_byte b ≤ 1
bool_byte-le true = omega arith
bool_byte-le false = omega arith

counted_once : (b : Bool) → cond b 1 0 ≡ bool_byte b
counted_once true = refl
counted_once false = refl

module _ {K V : Type 0} where
  pub kept_count-push : (cs : List (Change K V)) (c : Change K V) → kept_count (cs ++ c ∷ []) ≡ kept_count cs + bool_byte c.kept
  kept_count-push cs c = sum_by-append (λ c. cond c.kept 1 0) cs (c ∷ []) ∙ ap (λ n. kept_count cs + n) (sum_by-cons (λ c. cond c.kept 1 0) c [] ∙ omega (arith, counted_once c.kept))

  pub kept_count-le : (cs : List (Change K V)) → kept_count cs ≤ length cs
  kept_count-le cs = count_by-le-length (λ c. c.kept) cs

module _ {K V : Type 0} (R : K → K → Ordering) where
  pub length-states_of : (cs : List (Change K V)) (ps : List (K × Option V)) → length (states_of R cs ps) ≡ kept_count cs
  length-states_of [] ps = refl
  length-states_of (c ∷ cs) ps =
      length-joined c.kept (entries_of (before_all R (c ∷ cs) ps)) (states_of R cs ps) ∙ ap (λ n. cond c.kept 1 0 + n) (length-states_of cs ps) ∙ sym (sum_by-cons (λ c. cond c.kept 1 0) c cs)

  pub before_all-push : (cs : List (Change K V)) (c : Change K V) (ps : List (K × Option V)) → before_all R (cs ++ c ∷ []) ps ≡ before_all R cs (before R c ps)
  before_all-push [] c ps = refl
  before_all-push (x ∷ xs) c ps = ap (before R x) (before_all-push xs c ps)

  states_of-push : (cs : List (Change K V)) (c : Change K V) (ps : List (K × Option V)) → states_of R (cs ++ c ∷ []) ps ≡ states_of R cs (before R c ps) ++ cond c.kept (entries_of (before R c ps) ∷ []) []
  states_of-push [] c ps = refl
  states_of-push (x ∷ xs) c ps =
      rw (before_all-push xs c ps, states_of-push xs c ps) (joined x.kept (entries_of (before R x (before_all R xs (before R c ps)))) (states_of R xs (before R c ps)) (cond c.kept (entries_of (before R c ps) ∷ []) []))

  HasPlaces-push : (cs : List (Change K V)) (c : Change K V) (ps : List (K × Option V)) → HasPlace R c ps → HasPlaces R cs (before R c ps) → HasPlaces R (cs ++ c ∷ []) ps
  HasPlaces-push [] c ps one h = (one, tt)
  HasPlaces-push (x ∷ xs) c ps one h = (rw (before_all-push xs c ps) h.0, HasPlaces-push xs c ps one h.1)

  HasPlaces-last : (cs : List (Change K V)) (c : Change K V) (ps : List (K × Option V)) → HasPlaces R (cs ++ c ∷ []) ps → HasPlace R c ps × HasPlaces R cs (before R c ps)
  HasPlaces-last [] c ps h = (h.0, tt)
  HasPlaces-last (x ∷ xs) c ps h = ((HasPlaces-last xs c ps h.1).0, (rw (before_all-push xs c ps) at h.0, (HasPlaces-last xs c ps h.1).1))

-- a shelf after a place was put and its change was noted
module _ {K V : Type 0} {R : K → K → Ordering} (o : IsTotalOrder R) (exact : CmpEqualImpliesEq R) where
  entries_of-with_value : (k : K) (place : Option V) (ps : List (K × Option V)) → Ascends R ps → entries_of (insert_entry R ps k place) ≡ with_place R k place (entries_of ps)
  entries_of-with_value k None ps s = entries_of-take o k ps s
  entries_of-with_value k (Some v) ps s = entries_of-put o exact k v ps s

  pub history_of-with_change : (k : K) (place : Option V) (kept : Bool) (ps qs : List (K × Option V)) (cs ds : List (Change K V)) → Ascends R ps
      → qs ≡ insert_entry R ps k place → ds ≡ cs ++ record { key = k; found = lookup (is_at (R k)) ps; kept = kept } ∷ []
      → history_of R qs ds ≡ with_change kept (history_of R ps cs) (with_place R k place (entries_of ps))
  history_of-with_change k place kept ps qs cs ds s p d =
      rw (p, d, entries_of-with_value k place ps s, states_of-push R cs (record { key = k; found = lookup (is_at (R k)) ps; kept = kept }) (insert_entry R ps k place), with_old_place-with_value o k place ps s) refl

  pub IsWhole-with_change : (k : K) (place : Option V) (kept : Bool) (ps qs : List (K × Option V)) (cs ds : List (Change K V)) (n : ℕ) → Ascends R ps
      → qs ≡ insert_entry R ps k place → ds ≡ cs ++ record { key = k; found = lookup (is_at (R k)) ps; kept = kept } ∷ []
      → IsWhole R n ps cs → IsWhole R (n + bool_byte kept) qs ds
  IsWhole-with_change k place kept ps qs cs ds n s p d whole =
      let c : Change K V = record { key = k; found = lookup (is_at (R k)) ps; kept = kept } in
      let back : before R c (insert_entry R ps k place) ≡ ps = with_old_place-with_value o k place ps s in
      rw (p, d) (record {
        counted = ap (λ m. m + bool_byte kept) whole.counted ∙ sym (kept_count-push cs c);
        undoable = HasPlaces-push R cs c (insert_entry R ps k place) (λ _. ap is_some (value_at-with_value_same o k place ps)) (rw back whole.undoable);
      })

-- a shelf after its last change was undone
module _ {K V : Type 0} (R : K → K → Ordering) where
  pub IsWhole-undone : (cs ds : List (Change K V)) (c : Change K V) (ps : List (K × Option V)) (n : ℕ) → ds ≡ cs ++ c ∷ [] → IsWhole R n ps ds → (bool_byte c.kept ≤ n) × HasPlace R c ps × IsWhole R (n - bool_byte c.kept) (before R c ps) cs
  IsWhole-undone cs ds c ps n d whole =
      let all : n ≡ kept_count cs + bool_byte c.kept = whole.counted ∙ ap kept_count d ∙ kept_count-push cs c in
      let places : HasPlaces R (cs ++ c ∷ []) ps = subst (λ xs. HasPlaces R xs ps) d whole.undoable in
      (omega (arith, all), (HasPlaces-last R cs c ps places).0, record { counted = omega (arith, all); undoable = (HasPlaces-last R cs c ps places).1 })

  -- a mark of a state before a change brings back the same after the change was undone
  pub back_at-history_of : (cs ds : List (Change K V)) (c : Change K V) (ps : List (K × Option V)) (mark : ℕ) → ds ≡ cs ++ c ∷ [] → mark < kept_count ds
      → back_at (history_of R (before R c ps) cs) mark ≡ back_at (history_of R ps ds) mark
  back_at-history_of cs ds c ps mark d lt =
      let is : states_of R ds ps ≡ states_of R cs (before R c ps) ++ cond c.kept (entries_of (before R c ps) ∷ []) [] = ap (λ xs. states_of R xs ps) d ∙ states_of-push R cs c ps in
      let within : mark < length (states_of R cs (before R c ps) ++ cond c.kept (entries_of (before R c ps) ∷ []) []) = omega (arith, lt, length-states_of R ds ps, ap length is) in
      rw is (sym (back_at-undone c.kept (states_of R cs (before R c ps)) (entries_of (before R c ps)) (entries_of ps) mark within))
