-- Entries of a role one after the other, read from the front.
use Rattle.std.proofs.Common.{◌≡◌, ◌↔◌, ℕ, ◌<◌, List, [], ◌∷◌, ◌++◌, length, take, drop, get_or, refl, sym, ap, ◌∙◌, subst, arith, append_assoc, append-nil}
use Rattle.std.proofs.lemmas.List.{length-append, take-append-drop}
use Rattle.dv_schema.specs.declared.opening.Action.{Action}
use Rattle.dv_schema.specs.declared.opening.Action.TheVariants.{Create, Read, Write, Delete, Append, AppendTo, Assign, Share}
use Rattle.dv_roles.specs.Actions.{actions, number_of}
use Rattle.dv_roles.specs.declared.role.RoleEntry.{RoleEntry}
use Rattle.dv_cells.specs.Bytes.{entry_bytes, entries_bytes, AreEntries, Ascend, BeginsAfter, FitsEntry, IsListOf}
use Rattle.dv_cells.proofs.BigEndian.{high-injective}
use Rattle.dv_cells.proofs.Parts.{front_is, back_is}

action_is : (action : Action) → get_or actions (number_of action) Create ≡ action
action_is Create = refl
action_is Read = refl
action_is Write = refl
action_is Delete = refl
action_is Append = refl
action_is AppendTo = refl
action_is Assign = refl
action_is Share = refl

-- an entry has other bytes than every other one
pub same_entry : (a b : RoleEntry) → FitsEntry a → FitsEntry b → entry_bytes a ≡ entry_bytes b → a ≡ b
same_entry a b ha hb e =
    let number : number_of a.action ≡ number_of b.action = ap (λ bytes. get_or bytes 0 0) e in
    let action : a.action ≡ b.action = sym (action_is a.action) ∙ ap (λ n. get_or actions n Create) number ∙ action_is b.action in
    let table : a.table ≡ b.table = high-injective 2 a.table b.table ha.0 hb.0 (ap (λ bytes. take 2 (drop 1 bytes)) e) in
    let depth : a.depth ≡ b.depth = ap (λ bytes. get_or bytes 3 0) e in
    λ i. record { action = action i; table = table i; depth = depth i }

-- what is left of bytes after the entries read so far, and what is left of any entries that the bytes are
pub record IsListing (bytes rest : List ℕ) (entries : List RoleEntry) : Type 0 where
  pub are_entries : AreEntries entries
  pub front : bytes ≡ entries_bytes entries ++ rest
  pub left : (all : List RoleEntry) → IsListOf bytes all → (more : List RoleEntry) × (all ≡ entries ++ more) × IsListOf rest more

pub IsListing-start : (bytes : List ℕ) → IsListing bytes bytes []
unfolding entries_bytes AreEntries
IsListing-start bytes = record { are_entries = tt; front = refl; left = λ all is. (all, refl, is) }

pub entries_bytes-append : (entries : List RoleEntry) (entry : RoleEntry) → entries_bytes (entries ++ entry ∷ []) ≡ entries_bytes entries ++ entry_bytes entry
unfolding entries_bytes
entries_bytes-append [] entry = append-nil (entry_bytes entry)
entries_bytes-append (first ∷ more) entry = ap (λ bytes. entry_bytes first ++ bytes) (entries_bytes-append more entry) ∙ sym (append_assoc (entry_bytes first) (entries_bytes more) (entry_bytes entry))

AreEntries-append : (entries : List RoleEntry) (entry : RoleEntry) → AreEntries entries → FitsEntry entry → AreEntries (entries ++ entry ∷ [])
unfolding AreEntries
AreEntries-append [] entry all fits = (fits, tt)
AreEntries-append (first ∷ more) entry all fits = (all.0, AreEntries-append more entry all.1 fits)

-- a rest that isn't empty begins with the first of its entries
begins : (rest : List ℕ) (more : List RoleEntry) → 0 < length rest → IsListOf rest more → (entry : RoleEntry) × (after : List RoleEntry) × (more ≡ entry ∷ after) × FitsEntry entry × AreEntries after × (rest ≡ entry_bytes entry ++ entries_bytes after)
unfolding entries_bytes AreEntries
begins rest [] some is = absurd (omega (arith, some, ap length is.bytes_are))
begins rest (entry ∷ after) some is = (entry, after, refl, is.are_entries.0, is.are_entries.1, is.bytes_are)

module _ (bytes rest : List ℕ) (entries : List RoleEntry) (r : IsListing bytes rest entries) (some : 0 < length rest) where
  -- fewer than four bytes, or four that are no entry's, are no entries
  pub no_short : length rest < 4 → (all : List RoleEntry) → IsListOf bytes all → ⊥
  no_short short all is =
      let left = r.left all is in
      let it = begins rest left.0 some left.2 in
      omega (arith, short, ap length it.5, length-append (entry_bytes it.0) (entries_bytes it.1))

  pub no_entry : (first : List ℕ) → first ≡ take 4 rest → ((entry : RoleEntry) → FitsEntry entry → first ≡ entry_bytes entry → ⊥) → (all : List RoleEntry) → IsListOf bytes all → ⊥
  no_entry first first_is none all is =
      let left = r.left all is in
      let it = begins rest left.0 some left.2 in
      none it.0 it.3 (first_is ∙ front_is 4 rest (entry_bytes it.0) (entries_bytes it.1) refl it.5)

  pub IsListing-step : (first after : List ℕ) (entry : RoleEntry) → first ≡ take 4 rest → after ≡ drop 4 rest → FitsEntry entry → first ≡ entry_bytes entry → IsListing bytes after (entries ++ entry ∷ [])
  IsListing-step first after entry first_is after_is fits entry_is = record {
    are_entries = AreEntries-append entries entry r.are_entries fits;
    front = r.front ∙ ap (λ back. entries_bytes entries ++ back) (sym (take-append-drop 4 rest) ∙ (λ i. (sym first_is ∙ entry_is) i ++ sym after_is i))
        ∙ sym (append_assoc (entries_bytes entries) (entry_bytes entry) after) ∙ ap (λ front. front ++ after) (sym (entries_bytes-append entries entry));
    left = λ all is.
        let l = r.left all is in
        let it = begins rest l.0 some l.2 in
        let same : it.0 ≡ entry = same_entry it.0 entry it.3 fits (sym (front_is 4 rest (entry_bytes it.0) (entries_bytes it.1) refl it.5) ∙ sym first_is ∙ entry_is) in (
          it.1,
          l.1 ∙ ap (λ more. entries ++ more) (it.2 ∙ ap (λ e. e ∷ it.1) same) ∙ sym (append_assoc entries (entry ∷ []) it.1),
          record { are_entries = it.4; bytes_are = after_is ∙ back_is 4 rest (entry_bytes it.0) (entries_bytes it.1) refl it.5 },
        );
  }

none_left : (more : List RoleEntry) → IsListOf [] more → more ≡ []
unfolding entries_bytes
none_left [] is = refl
none_left (entry ∷ more) is = absurd (omega (arith, ap length is.bytes_are, length-append (entry_bytes entry) (entries_bytes more)))

-- where nothing is left, the bytes are those of no other entries
pub IsListing-only : (bytes : List ℕ) (entries others : List RoleEntry) → IsListing bytes [] entries → IsListOf bytes others → others ≡ entries
IsListing-only bytes entries others r is =
    let left = r.left others is in
    left.1 ∙ ap (λ more. entries ++ more) (none_left left.0 left.2) ∙ append-nil entries

-- entries ascend exactly where the first comes before the next and the others ascend
pub Ascend-first : (entries : List RoleEntry) (first : RoleEntry) (after : List RoleEntry) → entries ≡ first ∷ after → Ascend entries ↔ (BeginsAfter first after × Ascend after)
unfolding Ascend
Ascend-first entries first after is = (λ a. subst Ascend is a, λ a. subst Ascend (sym is) a)

pub Ascend-none : (entries : List RoleEntry) → length entries ≡ 0 → Ascend entries
unfolding Ascend
Ascend-none [] none = tt
Ascend-none (entry ∷ entries) none = absurd (omega (arith, none))

-- what is written and what is left to write, where the first entry was written
pub entries_bytes-first : (entries : List RoleEntry) (first : RoleEntry) (after : List RoleEntry) (out : List ℕ) → entries ≡ first ∷ after → (out ++ entry_bytes first) ++ entries_bytes after ≡ out ++ entries_bytes entries
unfolding entries_bytes
entries_bytes-first entries first after out is = append_assoc out (entry_bytes first) (entries_bytes after) ∙ sym (ap (λ all. out ++ entries_bytes all) is)

pub entries_bytes-none : (entries : List RoleEntry) (out : List ℕ) → length entries ≡ 0 → out ++ entries_bytes entries ≡ out
unfolding entries_bytes
entries_bytes-none [] out none = append-nil out
entries_bytes-none (entry ∷ entries) out none = absurd (omega (arith, none))
