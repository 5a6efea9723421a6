-- The keys of a journal's changes: what each had before the first of them.
use Rattle.std.proofs.Common.{◌≡◌, ℕ, zero, suc, ◌+◌, ◌-◌, ◌<◌, ◌≤◌, List, [], ◌∷◌, ◌++◌, length, take, drop, length-take, length-drop, get_or, refl, sym, ap, subst, ◌∙◌, arith, IsSome, add-one, Bor}
use mathlib.Core.Bool.{true≢false}
use Rattle.std.specs.Prelude.{Option, None, Some, cond, Bool, true, false, is_some, unwrap_or}
use Rattle.std.specs.Option.{option_copied, option_map}
use Rattle.std.specs.declared.cmp.Ordering.{Ordering}
use Rattle.std.specs.declared.cmp.Ordering.TheVariants.{Less, Equal, Greater}
use Rattle.std.specs.Ordering.{is_eq}
use Rattle.std.specs.Cmp.{IsTotalOrder, tied_itself}
use Rattle.std.specs.BTreeMap.{is_at}
use Rattle.std.proofs.Math.Seq.{drop-cons}
use Rattle.std.proofs.lemmas.Grind.{take_at_read}
use Rattle.std.proofs.lemmas.List.{nil_from_length}
use Rattle.std.proofs.lemmas.Map.Lookups.{CmpEqualImpliesEq}
use Rattle.dv_work.specs.declared.journal.Change.{Change}
use Rattle.dv_work.specs.Entries.{Ascends, Tells, value_at}
use Rattle.dv_work.specs.Journal.{before, before_all, with_old_place, entries_of, kept_count, value_in}
use Rattle.dv_work.proofs.EntryLaws.{value_at-with_value, value_at-without_key, Ascends-with_value, Ascends-without_key}
use Rattle.dv_work.proofs.JournalLaws.{kept_count-le}
use Rattle.dv_work.proofs.PlaceLaws.{value_at-entries_of}

-- a list cut before its last item, and from it on
pub cut_before : {A : Type 0} (xs : List A) (n : ℕ) (x : A) → 0 < n → n ≤ length xs → x ≡ get_or xs (n - 1) x → (take n xs ≡ take (n - 1) xs ++ x ∷ []) × (drop (n - 1) xs ≡ x ∷ drop n xs)
cut_before xs zero x some within is = absurd (omega (arith, some))
cut_before xs (suc i) x some within is =
    let less : suc i - 1 ≡ i = omega arith in
    let lt : i < length xs = omega (arith, within) in
    let here : x ≡ get_or xs i x = is ∙ ap (λ k. get_or xs k x) less in
    let more : i + 1 ≡ suc i = omega arith in
    (subst (λ k. take k xs ≡ take (suc i - 1) xs ++ x ∷ []) more (rw less ((take_at_read xs i x lt).1 ∙ ap (λ y. take i xs ++ y ∷ []) (sym here))), rw less (drop-cons xs i x lt ∙ ap (λ y. y ∷ drop (suc i) xs) (sym here)))

-- where a front of a journal keeps a state, it has a change
pub some_kept : {K V : Type 0} (cs : List (Change K V)) (n : ℕ) → 0 < kept_count (take n cs) → 0 < n
some_kept cs n some = omega (arith, some, kept_count-le (take n cs), length-take n cs)

-- a journal from a change on, and past its end
pub drop_at : {A : Type 0} (xs : List A) (i : ℕ) (x : A) → i < length xs → x ≡ get_or xs i x → drop i xs ≡ x ∷ drop (i + 1) xs
drop_at xs i x lt is = drop-cons xs i x lt ∙ rw (sym is, add-one) refl

pub drop_past : {A : Type 0} (xs : List A) (i : ℕ) → length xs ≤ i → drop i xs ≡ []
drop_past xs i le = nil_from_length (drop i xs) (omega (arith, length-drop i xs, le))

module _ {K V : Type 0} {R : K → K → Ordering} (o : IsTotalOrder R) where
  Ascends-with_old_place : (k : K) (b : Option (Option V)) (ps : List (K × Option V)) → Ascends R ps → Ascends R (with_old_place R k b ps)
  Ascends-with_old_place k None ps s = Ascends-without_key R (is_at (R k)) ps s
  Ascends-with_old_place k (Some place) ps s = Ascends-with_value o k place ps s

  Ascends-before_all : (cs : List (Change K V)) (ps : List (K × Option V)) → Ascends R ps → Ascends R (before_all R cs ps)
  Ascends-before_all [] ps s = s
  Ascends-before_all (c ∷ cs) ps s = Ascends-with_old_place c.key c.found (before_all R cs ps) (Ascends-before_all cs ps s)

  value_at-with_old_place : (k : K) (b : Option (Option V)) (q : K) (ps : List (K × Option V)) → Ascends R ps → value_at R q (with_old_place R k b ps) ≡ cond (is_eq (R q k)) b (value_at R q ps)
  value_at-with_old_place k None q ps s = value_at-without_key o k q ps s
  value_at-with_old_place k (Some place) q ps s = value_at-with_value o k place q ps

  -- before a change, its key had what it found, and the others what they had after it
  value_at-before : (c : Change K V) (q : K) (ps : List (K × Option V)) → Ascends R ps → value_at R q (entries_of (before R c ps)) ≡ value_in (cond (is_eq (R q c.key)) c.found (value_at R q ps))
  value_at-before c q ps s = value_at-entries_of o q (before R c ps) (Ascends-with_old_place c.key c.found ps s) ∙ ap value_in (value_at-with_old_place c.key c.found q ps s)

-- what is told of the key of a change, which had `x` before it and `z` after it
tell_key : {V : Type 0} (m n : Option (Option (Bor V))) (x y z : Option V) → (IsSome m → n ≡ m) → (m ≡ None → option_map option_copied n ≡ Some x) → Tells m y x → Tells n y z
tell_key (Some b) n x y z told first h = subst (λ t. Tells t y z) (sym (told refl)) h
tell_key None None x y z told first h = absurd (true≢false (sym (ap is_some (first refl))))
tell_key None (Some b) x y z told first h = some_is (first refl) ∙ h
  where
    some_is : {A : Type 0} {a b : A} → Some a ≡ Some b → a ≡ b
    some_is {a} e = ap (λ r. unwrap_or r a) e

-- one more change told
module _ {K V : Type 0} {R : K → K → Ordering} (o : IsTotalOrder R) (exact : CmpEqualImpliesEq R) (c : Change K V) (cs ds : List (Change K V)) (d : ds ≡ c ∷ cs) (ps : List (K × Option V)) (s : Ascends R ps) (m n : List (K × Option (Bor V))) (old : List (K × V)) where
  told_other : (q : K) → is_eq (R q c.key) ≡ false → value_at R q n ≡ value_at R q m
      → Tells (value_at R q m) (value_at R q old) (value_at R q (entries_of (before_all R ds ps))) → Tells (value_at R q n) (value_at R q old) (value_at R q (entries_of (before_all R cs ps)))
  told_other q apart others h =
      let t : Ascends R (before_all R cs ps) = Ascends-before_all o cs ps s in
      let same : value_at R q (entries_of (before_all R ds ps)) ≡ value_at R q (entries_of (before_all R cs ps)) =
      ap (λ xs. value_at R q (entries_of (before_all R xs ps))) d ∙ value_at-before o c q (before_all R cs ps) t ∙ ap (λ b. value_in (cond b c.found (value_at R q (before_all R cs ps)))) apart ∙ sym (value_at-entries_of o q (before_all R cs ps) t) in
      rw others (subst (λ x. Tells (value_at R q m) (value_at R q old) x) same h)

  told_key : (IsSome (value_at R c.key m) → value_at R c.key n ≡ value_at R c.key m) → (value_at R c.key m ≡ None → option_map option_copied (value_at R c.key n) ≡ Some (value_in c.found))
      → Tells (value_at R c.key m) (value_at R c.key old) (value_at R c.key (entries_of (before_all R ds ps))) → Tells (value_at R c.key n) (value_at R c.key old) (value_at R c.key (entries_of (before_all R cs ps)))
  told_key told first h =
      let t : Ascends R (before_all R cs ps) = Ascends-before_all o cs ps s in
      let found : value_at R c.key (entries_of (before_all R ds ps)) ≡ value_in c.found =
      ap (λ xs. value_at R c.key (entries_of (before_all R xs ps))) d ∙ value_at-before o c c.key (before_all R cs ps) t ∙ ap (λ r. value_in (cond (is_eq r) c.found (value_at R c.key (before_all R cs ps)))) (tied_itself o c.key) in
      tell_key (value_at R c.key m) (value_at R c.key n) (value_in c.found) (value_at R c.key old) (value_at R c.key (entries_of (before_all R cs ps))) told first
      (subst (λ x. Tells (value_at R c.key m) (value_at R c.key old) x) found h)

  pub told_step : ((q : K) → is_eq (R q c.key) ≡ false → value_at R q n ≡ value_at R q m)
      → (IsSome (value_at R c.key m) → value_at R c.key n ≡ value_at R c.key m) → (value_at R c.key m ≡ None → option_map option_copied (value_at R c.key n) ≡ Some (value_in c.found))
      → ((q : K) → Tells (value_at R q m) (value_at R q old) (value_at R q (entries_of (before_all R ds ps)))) → (q : K) → Tells (value_at R q n) (value_at R q old) (value_at R q (entries_of (before_all R cs ps)))
  told_step others told first h q = elim (R q c.key) as (λ r. R q c.key ≡ r → Tells (value_at R q n) (value_at R q old) (value_at R q (entries_of (before_all R cs ps)))) [
    | Less ↦ λ e. told_other q (ap is_eq e) (others q (ap is_eq e)) (h q)
    | Equal ↦ λ e. subst (λ k. Tells (value_at R k n) (value_at R k old) (value_at R k (entries_of (before_all R cs ps)))) (sym (exact q c.key e)) (told_key told first (h c.key))
    | Greater ↦ λ e. told_other q (ap is_eq e) (others q (ap is_eq e)) (h q)
  ] refl
