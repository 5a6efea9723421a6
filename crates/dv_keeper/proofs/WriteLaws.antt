-- What writing to places makes of the cells in them.
use Rattle.std.proofs.Common.{◌≡◌, ℕ, List, [], ◌∷◌, Option, None, Some, Bool, true, false, cond, Result, Ok, Err, OnOk, OnErr, IsSome, is_some, refl, sym, ap, ◌∙◌, map, ◌++◌}
use mathlib.Core.Path.{fun_ext}
use mathlib.Core.Bool.{true≢false}
use Rattle.std.specs.Ordering.{nat_cmp, is_eq}
use Rattle.std.specs.Str.{bytes_eq}
use Rattle.std.specs.Cmp.Lexicographic.{slice_cmp, nat_list_eq_equiv, texts_ties}
use Rattle.std.specs.Cmp.{Equal-is}
use Rattle.std.specs.BTreeMap.{BTreeMap, Updates, is_at}
use Rattle.std.proofs.lemmas.Map.Lookups.{exact_bytes}
use Rattle.dv_keeper.specs.declared.cell.Change.{Change}
use Rattle.dv_keeper.specs.declared.cell.Change.TheVariants.{Put, Take}
use Rattle.dv_keeper.specs.declared.writing.Write.{Write}
use Rattle.dv_keeper.specs.Cells.{Cells, changed, all_changed}
use Rattle.dv_keeper.specs.Memory.{HavePlaces, Places, address, all_written, held_in, place_at, value_in, write_of, written}

-- an address compares as equal exactly to itself
at_is-bytes_eq : (at q : List ℕ) → is_eq (slice_cmp nat_cmp at q) ≡ bytes_eq q at
at_is-bytes_eq at q = sym (texts_ties at q) ∙ nat_list_eq_equiv.symm at q

-- the places after one of them got something
abbrev pub Sets : List ℕ → Option (List ℕ) → Places → Places → Type 0
Sets at place old new = (q : List ℕ) → place_at q new ≡ cond (is_at (slice_cmp nat_cmp at) q) (Some place) (place_at q old)

value_in-cond : (b : Bool) (value : Option (List ℕ)) (place : Option (Option (List ℕ))) → value_in (cond b (Some value) place) ≡ cond b value (value_in place)
value_in-cond true value place = refl
value_in-cond false value place = refl

missing : (place : Option (Option (List ℕ))) → false ≡ is_some place → place ≡ None
missing None h = refl
missing (Some value) h = absurd (true≢false (sym h))

-- an empty place more isn't seen
pub held_in-Sets-None : (at : List ℕ) (old new : Places) → place_at at old ≡ None → Sets at None old new → held_in new ≡ held_in old
held_in-Sets-None at old new missing sets = fun_ext λ sheet. fun_ext λ key.
    let q = address sheet key in
    ap value_in (sets q) ∙ value_in-cond (is_at (slice_cmp nat_cmp at) q) None (place_at q old)
    ∙ elim (is_eq (slice_cmp nat_cmp at q)) as (λ b. is_eq (slice_cmp nat_cmp at q) ≡ b → cond b None (value_in (place_at q old)) ≡ value_in (place_at q old)) [
      | true ↦ λ h. sym (ap (λ k. value_in (place_at k old)) (sym (exact_bytes at q ((Equal-is (slice_cmp nat_cmp at q)).0 h))) ∙ ap value_in missing)
      | false ↦ λ h. refl
    ] refl

-- a write to a place that is there
pub held_in-Sets : (write : Write) (old new : Places) → Sets write.address write.value old new → held_in new ≡ written write (held_in old)
held_in-Sets write old new sets = fun_ext λ sheet. fun_ext λ key.
    let q = address sheet key in
    ap value_in (sets q) ∙ value_in-cond (is_at (slice_cmp nat_cmp write.address) q) write.value (place_at q old)
    ∙ ap (λ b. cond b write.value (value_in (place_at q old))) (at_is-bytes_eq write.address q)

-- a change is its write
pub written-write_of : (change : Change) (cells : Cells) → written (write_of change) cells ≡ changed change cells
written-write_of (Put s k value) cells = refl
written-write_of (Take s k) cells = refl

pub all_written-write_of : (changes : List Change) (cells : Cells) → all_written (map write_of changes) cells ≡ all_changed changes cells
all_written-write_of [] cells = refl
all_written-write_of (change ∷ more) cells = ap (all_written (map write_of more)) (written-write_of change cells) ∙ all_written-write_of more (changed change cells)

-- whatever an insertion answers
module _ {T E : Type 0} (r : Result T E) (old new : BTreeMap (List ℕ) (Option (List ℕ))) where
  pub held_in-insert-None : (at : List ℕ) (there : Bool) → false ≡ there → there ≡ is_some (place_at at old.entries)
      → OnOk r (Updates (slice_cmp nat_cmp) old new at (Some None)) → OnErr r (new.entries ≡ old.entries) → held_in new.entries ≡ held_in old.entries
  held_in-insert-None at there without is ok err = go r ok err
    where
      go : (r : Result T E) → OnOk r (Updates (slice_cmp nat_cmp) old new at (Some None)) → OnErr r (new.entries ≡ old.entries) → held_in new.entries ≡ held_in old.entries
      go (Ok x) ok err = held_in-Sets-None at old.entries new.entries (missing (place_at at old.entries) (without ∙ is)) ok.0
      go (Err e) ok err = ap held_in err

  pub held_in-insert : (write : Write) → IsSome (place_at write.address old.entries)
      → OnOk r (Updates (slice_cmp nat_cmp) old new write.address (Some write.value)) → OnErr r (place_at write.address old.entries ≡ None) → held_in new.entries ≡ written write (held_in old.entries)
  held_in-insert write there ok err = go r ok err
    where
      go : (r : Result T E) → OnOk r (Updates (slice_cmp nat_cmp) old new write.address (Some write.value)) → OnErr r (place_at write.address old.entries ≡ None) → held_in new.entries ≡ written write (held_in old.entries)
      go (Ok x) ok err = held_in-Sets write old.entries new.entries ok.0
      go (Err e) ok err = absurd (true≢false (sym there ∙ ap is_some err))

-- places stay, and one write more has its place
pub HavePlaces-grow : (old new : Places) → ((q : List ℕ) → IsSome (place_at q old) → IsSome (place_at q new)) → (writes : List Write) → HavePlaces old writes → HavePlaces new writes
HavePlaces-grow old new others [] have = tt
HavePlaces-grow old new others (write ∷ more) have = (others write.address have.0, HavePlaces-grow old new others more have.1)

pub HavePlaces-append : (places : Places) (writes : List Write) (write : Write) → HavePlaces places writes → IsSome (place_at write.address places) → HavePlaces places (writes ++ write ∷ [])
HavePlaces-append places [] write have there = (there, tt)
HavePlaces-append places (first ∷ more) write have there = (have.0, HavePlaces-append places more write have.1 there)
