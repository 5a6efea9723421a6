-- What is left of an object when a member was taken out of it.
use Rattle.std.proofs.Common.{◌≡◌, ◌∙◌, refl, sym, ap, ℕ, List, [], ◌∷◌, false, true≢false, Option, Some, Ordering, Less, Equal, Greater, String, Global, string_bytes, bytes_eq, cond, is_eq, nat_cmp}
use Rattle.std.proofs.lemmas.Map.Text.{is_eq-slice_cmp}
use Rattle.std.proofs.lemmas.Slice.Eq.{bytes_eq-Decides}
use Rattle.std.specs.BTreeMap.{is_at}
use Rattle.std.specs.Cmp.Lexicographic.{slice_cmp}
use Rattle.std.specs.Map.{remove_entry}
use Rattle.std.specs.Ordering.{match_ordering}
use Rattle.serde_json.specs.Data.{Data, Members, no_members, member}
use Rattle.serde_json.specs.Find.{get_member}
use Rattle.serde_json.specs.View.{view, members_view}
use Rattle.serde_json.specs.declared.value.Value.{Value as Json}
use Rattle.dv_value.specs.Json.{without}

abbrev Entry : Type 0
Entry = String Global × Json

entry_removed : (o : Ordering) (e : Entry) (es rest : List Entry) (ms : Members) → members_view rest ≡ ms
    → members_view (cond (is_eq o) es (e ∷ rest)) ≡ match_ordering o (member (string_bytes e.0) (view e.1) ms) (members_view es) (member (string_bytes e.0) (view e.1) ms)
entry_removed Less e es rest ms is = ap (member (string_bytes e.0) (view e.1)) is
entry_removed Equal e es rest ms is = refl
entry_removed Greater e es rest ms is = ap (member (string_bytes e.0) (view e.1)) is

-- an entry that is removed from a map is the member that is taken
pub members_view-remove_entry : (name : List ℕ) (es : List Entry) → members_view (remove_entry (is_at (λ key. slice_cmp nat_cmp name (string_bytes key))) es) ≡ without name (members_view es)
unfolding without
members_view-remove_entry name [] = refl
members_view-remove_entry name (e ∷ es) = entry_removed (slice_cmp nat_cmp name (string_bytes e.0)) e es _ _ (members_view-remove_entry name es)

passed_over : (o : Ordering) (a b : Option Data) → is_eq o ≡ false → match_ordering o a b a ≡ a
passed_over Less a b e = refl
passed_over Equal a b e = absurd (true≢false e)
passed_over Greater a b e = refl

other_at : (o : Ordering) (other name key : List ℕ) (d : Data) (ms rest : Members) → slice_cmp nat_cmp name key ≡ o → bytes_eq other name ≡ false → get_member other rest ≡ get_member other ms
    → get_member other (match_ordering o (member key d rest) ms (member key d rest)) ≡ get_member other (member key d ms)
other_at Less other name key d ms rest is apart same = ap (λ found. match_ordering (slice_cmp nat_cmp other key) found (Some d) found) same
other_at Equal other name key d ms rest is apart same =
    let here : name ≡ key = (bytes_eq-Decides name key).0 (sym (is_eq-slice_cmp name key) ∙ ap is_eq is) in
    sym (passed_over (slice_cmp nat_cmp other key) _ _ (is_eq-slice_cmp other key ∙ ap (bytes_eq other) (sym here) ∙ apart))
other_at Greater other name key d ms rest is apart same = ap (λ found. match_ordering (slice_cmp nat_cmp other key) found (Some d) found) same

-- the members of other names are still there
pub get_member-without : (other name : List ℕ) (ms : Members) → bytes_eq other name ≡ false → get_member other (without name ms) ≡ get_member other ms
unfolding without
get_member-without other name no_members apart = refl
get_member-without other name (member key d ms) apart = other_at _ other name key d ms (without name ms) refl apart (get_member-without other name ms apart)
