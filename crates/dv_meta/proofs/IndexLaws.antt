-- An index of a list's names, item by item.
use Rattle.std.proofs.Common.{◌≡◌, ℕ, ◌+◌, ◌<◌, ◌≤◌, List, [], ◌∷◌, ◌++◌, length, map, take, get_or, Some, None, cond, refl, sym, ap, ◌∙◌, arith, zero-add, subst, zero, suc, append_assoc, slice_get, flat_map}
use Rattle.std.specs.Option.{option_or}
use Rattle.std.proofs.lemmas.List.{map-append, take_more, take_all, length-map, length-take-le, length_push, flat_map_more}
use Rattle.dv_schema.specs.declared.draft.DraftForm.{DraftForm}
use Rattle.dv_schema.specs.declared.draft.DraftForm.TheVariants.{Plain, Lookup, Rollup}
use Rattle.dv_schema.specs.declared.draft.DraftTable.{DraftTable}
use Rattle.dv_meta.specs.declared.index.table_columns.Columns.{Columns}
use Rattle.dv_schema.specs.declared.draft.DraftRelationship.{DraftRelationship}
use Rattle.dv_meta.specs.declared.index.names.Lookups.{Lookups}
use Rattle.dv_meta.specs.declared.index.names.Numbers.{Numbers}
use Rattle.dv_schema.specs.First.{first_from}
use Rattle.dv_meta.specs.Columns.{names_by}
use Rattle.dv_meta.specs.Index.{Adds, AddsLookup, Finds, FindsColumns, FindsEach, FindsLookups}
use Rattle.dv_meta.specs.Named.{lookup_of, has_lookup}
use Rattle.dv_schema.specs.Names.{Name, same_name, place_of}
use Rattle.dv_meta.specs.Numbers.{number_in, lookup_in}
use Rattle.dv_schema.proofs.FirstLaws.{first_from-push}

-- one name more is found
pub Finds-push : (old new : Numbers) (names : List Name) (name : Name) → Finds old names → Adds old new name (length names) → Finds new (names ++ name ∷ [])
unfolding place_of
Finds-push old new names name found added q =
    added q ∙ ap (λ o. option_or o (cond (same_name q name) (Some (length names)) None)) (found q)
    ∙ sym (first_from-push (λ i x. cond (same_name q x) (Some i) None) 0 names name ∙ ap (λ k. option_or (first_from (λ i x. cond (same_name q x) (Some i) None) 0 names) (cond (same_name q name) (Some k) None)) (zero-add (length names)))

-- the same where the number is known to be that of the name
pub Finds-push_at : (old new : Numbers) (names : List Name) (name : Name) (number : ℕ) → length names ≡ number → Finds old names → Adds old new name number → Finds new (names ++ name ∷ [])
Finds-push_at old new names name number e found added = Finds-push old new names name found (let P : ℕ → Type 0 = λ n. Adds old new name n in subst P (sym e) added)

map-take-more : {X : Type 0} (f : X → Name) (xs : List X) (i : ℕ) (x : X) → i < length xs → x ≡ get_or xs i x → map f (take (i + 1) xs) ≡ map f (take i xs) ++ f x ∷ []
map-take-more f xs i x within read = ap (map f) (take_more xs i x within ∙ ap (λ y. take i xs ++ y ∷ []) (sym read)) ∙ map-append f (take i xs) (x ∷ [])

length-map-take : {X : Type 0} (f : X → Name) (xs : List X) (i : ℕ) → i < length xs → length (map f (take i xs)) ≡ i
length-map-take f xs i within = length-map (take i xs) f ∙ length-take-le i xs (omega arith)

-- the names of the items so far, and that of one more
pub Finds-more : {X : Type 0} (f : X → Name) (xs : List X) (i : ℕ) (x : X) (old new : Numbers) → i < length xs → x ≡ get_or xs i x
    → Finds old (map f (take i xs)) → Adds old new (f x) i → Finds new (map f (take (i + 1) xs))
Finds-more f xs i x old new within read found added =
    let P : List Name → Type 0 = Finds new in
    subst P (sym (map-take-more f xs i x within read)) (Finds-push_at old new (map f (take i xs)) (f x) i (length-map-take f xs i within) found added)

-- all items
pub Finds-all : {X : Type 0} (f : X → Name) (xs : List X) (i : ℕ) (numbers : Numbers) → length xs ≤ i → Finds numbers (map f (take i xs)) → Finds numbers (map f xs)
Finds-all {X} f xs i numbers past found = let P : List X → Type 0 = λ ys. Finds numbers (map f ys) in subst P (take_all i xs past) found

-- a copy of the name is added
pub Finds-more_copy : {X : Type 0} (f : X → Name) (xs : List X) (i : ℕ) (x : X) (copy : Name) (old new : Numbers) → i < length xs → x ≡ get_or xs i x → copy ≡ f x
    → Finds old (map f (take i xs)) → Adds old new copy i → Finds new (map f (take (i + 1) xs))
Finds-more_copy f xs i x copy old new within read e found added =
    Finds-more f xs i x old new within read found (let P : Name → Type 0 = λ name. Adds old new name i in subst P e added)

-- no names
pub Finds-nil : (numbers : Numbers) → ((q : Name) → number_in numbers q ≡ None) → Finds numbers []
unfolding place_of first_from
Finds-nil numbers none q = none q

-- one relationship more
pub FindsLookups-more : (rs : List DraftRelationship) (i : ℕ) (r : DraftRelationship) (old new : Lookups) → i < length rs → r ≡ get_or rs i r
    → FindsLookups old (take i rs) → AddsLookup old new r.child r.column i → FindsLookups new (take (i + 1) rs)
unfolding lookup_of
FindsLookups-more rs i r old new within read found added t q =
    added t q ∙ ap (λ o. option_or o (cond (has_lookup t q r) (Some i) None)) (found t q)
    ∙ sym (ap (first_from (λ k x. cond (has_lookup t q x) (Some k) None) 0) (take_more rs i r within ∙ ap (λ y. take i rs ++ y ∷ []) (sym read))
    ∙ first_from-push (λ k x. cond (has_lookup t q x) (Some k) None) 0 (take i rs) r
    ∙ ap (λ k. option_or (first_from (λ k x. cond (has_lookup t q x) (Some k) None) 0 (take i rs)) (cond (has_lookup t q r) (Some k) None)) (zero-add _ ∙ length-take-le i rs (omega arith)))

-- copies of the names are added
pub FindsLookups-more_copy : (rs : List DraftRelationship) (i : ℕ) (r : DraftRelationship) (child column : Name) (old new : Lookups) → i < length rs → r ≡ get_or rs i r → child ≡ r.child → column ≡ r.column
    → FindsLookups old (take i rs) → AddsLookup old new child column i → FindsLookups new (take (i + 1) rs)
FindsLookups-more_copy rs i r child column old new within read e e' found added =
    let P : Name → Type 0 = λ name. AddsLookup old new name column i in
    let Q : Name → Type 0 = λ name. AddsLookup old new r.child name i in
    FindsLookups-more rs i r old new within read found (subst Q e' (subst P e added))

-- no relationships
pub FindsLookups-nil : (lookups : Lookups) → ((t q : Name) → lookup_in lookups t q ≡ None) → FindsLookups lookups []
unfolding lookup_of first_from
FindsLookups-nil lookups none t q = none t q

-- all relationships
pub FindsLookups-all : (rs : List DraftRelationship) (i : ℕ) (lookups : Lookups) → length rs ≤ i → FindsLookups lookups (take i rs) → FindsLookups lookups rs
FindsLookups-all rs i lookups past found = let P : List DraftRelationship → Type 0 = FindsLookups lookups in subst P (take_all i rs past) found

-- a column that takes one name
pub Finds-column : (ns : List Name) (old new : Numbers) (names : List Name) (name copy : Name) (number : ℕ) → ns ≡ name ∷ [] → copy ≡ name
    → length names ≡ number → Finds old names → Adds old new copy number → Finds new (names ++ ns)
Finds-column ns old new names name copy number e same count found added =
    let P : List Name → Type 0 = λ ms. Finds new (names ++ ms) in
    let Q : Name → Type 0 = λ n. Finds new (names ++ n ∷ []) in
    subst P (sym e) (subst Q same (Finds-push_at old new names copy number count found added))

-- a rollup, which takes three
pub Finds-rollup : (ns : List Name) (old n₁ n₂ new : Numbers) (names : List Name) (a b c : Name) (number : ℕ) → ns ≡ a ∷ b ∷ c ∷ []
    → length names ≡ number → Finds old names → Adds old n₁ a number → Adds n₁ n₂ b (number + 1) → Adds n₂ new c (number + 2) → Finds new (names ++ ns)
Finds-rollup ns old n₁ n₂ new names a b c number e count found one two three =
    let P : List Name → Type 0 = Finds new in
    let f₁ = Finds-push_at old n₁ names a number count found one in
    let f₂ = Finds-push_at n₁ n₂ (names ++ a ∷ []) b (number + 1) (length_push names a ∙ ap (λ n. n + 1) count) f₁ two in
    let e₂ : number + 1 + 1 ≡ number + 2 = omega arith in
    let f₃ = Finds-push_at n₂ new ((names ++ a ∷ []) ++ b ∷ []) c (number + 2) (length_push (names ++ a ∷ []) b ∙ ap (λ n. n + 1) (length_push names a ∙ ap (λ n. n + 1) count) ∙ e₂) f₂ three in
    subst P (append_assoc (names ++ a ∷ []) (b ∷ []) (c ∷ []) ∙ append_assoc names (a ∷ []) (b ∷ c ∷ []) ∙ ap (λ ms. names ++ ms) (sym e)) f₃

-- a column takes at most three names
pub length-names_by : (form : DraftForm) (name : Name) → length (names_by form name) ≤ 3
length-names_by (Plain kind) name = omega arith
length-names_by Lookup name = omega arith
length-names_by (Rollup rollup) name = omega arith

-- the names of one column more
pub flat_map-take-more : {X A : Type 0} (f : X → List A) (names : List A) (xs : List X) (i : ℕ) (x : X) → i < length xs → x ≡ get_or xs i x
    → (names ++ flat_map f (take i xs)) ++ f x ≡ names ++ flat_map f (take (i + 1) xs)
flat_map-take-more f names xs i x within read =
    flat_map_more f names (take i xs) x ∙ ap (λ ys. names ++ flat_map f ys) (sym (take_more xs i x within ∙ ap (λ y. take i xs ++ y ∷ []) (sym read)))

-- one table more
pub FindsEach-push : (cs : List Columns) (ts : List DraftTable) (c : Columns) (t : DraftTable) → FindsEach cs ts → FindsColumns c t → FindsEach (cs ++ c ∷ []) (ts ++ t ∷ [])
unfolding FindsEach
FindsEach-push [] [] c t each here = (here, tt)
FindsEach-push [] (t' ∷ ts) c t each here = absurd each
FindsEach-push (c' ∷ cs) [] c t each here = absurd each
FindsEach-push (c' ∷ cs) (t' ∷ ts) c t each here = (each.0, FindsEach-push cs ts c t each.1 here)

pub FindsEach-more : (cs : List Columns) (ts : List DraftTable) (i : ℕ) (c : Columns) (t : DraftTable) → i < length ts → t ≡ get_or ts i t → FindsEach cs (take i ts) → FindsColumns c t → FindsEach (cs ++ c ∷ []) (take (i + 1) ts)
FindsEach-more cs ts i c t within read each here =
    let P : List DraftTable → Type 0 = FindsEach (cs ++ c ∷ []) in
    subst P (sym (take_more ts i t within ∙ ap (λ y. take i ts ++ y ∷ []) (sym read))) (FindsEach-push cs (take i ts) c t each here)

pub FindsEach-nil : FindsEach [] []
unfolding FindsEach
FindsEach-nil = tt

pub FindsEach-all : (cs : List Columns) (ts : List DraftTable) (i : ℕ) → length ts ≤ i → FindsEach cs (take i ts) → FindsEach cs ts
FindsEach-all cs ts i past each = let P : List DraftTable → Type 0 = FindsEach cs in subst P (take_all i ts past) each

-- what a list has where it was read
pub slice_get-read : {X : Type 0} (xs : List X) (i : ℕ) (x : X) → i < length xs → x ≡ get_or xs i x → slice_get xs i ≡ Some x
slice_get-read [] i x within read = absurd (omega arith)
slice_get-read (y ∷ ys) zero x within read = ap Some (sym read)
slice_get-read (y ∷ ys) (suc i) x within read = slice_get-read ys i x (omega arith) read

-- the columns beside a table
pub FindsEach-at : (cs : List Columns) (ts : List DraftTable) (i : ℕ) (c : Columns) (t : DraftTable) → FindsEach cs ts → slice_get cs i ≡ Some c → slice_get ts i ≡ Some t → FindsColumns c t
unfolding FindsEach
FindsEach-at [] ts i c t each e e' = absurd (cc)
FindsEach-at (c' ∷ cs) [] i c t each e e' = absurd each
FindsEach-at (c' ∷ cs) (t' ∷ ts) zero c t each e e' =
    let P : Columns → Type 0 = λ x. FindsColumns x t in
    let Q : DraftTable → Type 0 = FindsColumns c' in
    let same_columns : c' ≡ c = cc in
    let same_table : t' ≡ t = cc in
    subst P same_columns (subst Q same_table each.0)
FindsEach-at (c' ∷ cs) (t' ∷ ts) (suc i) c t each e e' = FindsEach-at cs ts i c t each.1 e e'

-- there are as many of one as of the other
pub FindsEach-none : (cs : List Columns) (ts : List DraftTable) (i : ℕ) → FindsEach cs ts → slice_get cs i ≡ None → slice_get ts i ≡ None
unfolding FindsEach
FindsEach-none [] [] i each e = refl
FindsEach-none [] (t ∷ ts) i each e = absurd each
FindsEach-none (c ∷ cs) [] i each e = refl
FindsEach-none (c ∷ cs) (t ∷ ts) zero each e = absurd (cc)
FindsEach-none (c ∷ cs) (t ∷ ts) (suc i) each e = FindsEach-none cs ts i each.1 e

-- three items more, one by one
pub three_more : {X : Type 0} (xs n₁ n₂ n₃ more : List X) (a b c a' b' c' : X) → n₁ ≡ xs ++ a ∷ [] → n₂ ≡ n₁ ++ b ∷ [] → n₃ ≡ n₂ ++ c ∷ []
    → a ≡ a' → b ≡ b' → c ≡ c' → more ≡ a' ∷ b' ∷ c' ∷ [] → n₃ ≡ xs ++ more
three_more xs n₁ n₂ n₃ more a b c a' b' c' e₁ e₂ e₃ f g h e =
    e₃ ∙ ap (λ ys. ys ++ c ∷ []) (e₂ ∙ ap (λ ys. ys ++ b ∷ []) e₁) ∙ append_assoc (xs ++ a ∷ []) (b ∷ []) (c ∷ []) ∙ append_assoc xs (a ∷ []) (b ∷ c ∷ [])
    ∙ ap (λ x. xs ++ x ∷ b ∷ c ∷ []) f ∙ ap (λ x. xs ++ a' ∷ x ∷ c ∷ []) g ∙ ap (λ x. xs ++ a' ∷ b' ∷ x ∷ []) h ∙ ap (λ ys. xs ++ ys) (sym e)
