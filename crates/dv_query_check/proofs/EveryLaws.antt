-- What holds of every item of a list.
use Rattle.std.proofs.Common.{◌≡◌, ℕ, zero, suc, true, List, [], ◌∷◌, ◌++◌, slice_get, Option, Some, None, option_map, option_and_then, refl, subst}
use Rattle.std.specs.List.{flat_map}
use Rattle.std.specs.Option.{is_some}
use Rattle.dv_query_check.specs.Each.{each_of, if_given}
use Rattle.dv_query_check.proofs.AcceptedLaws.{some_same}

abbrev pub Every : {A : Type 0} → (A → Type 0) → List A → Type 0
Every {A} P xs = (k : ℕ) (x : A) → slice_get xs k ≡ Some x → P x

pub every_none : {A : Type 0} (P : A → Type 0) → Every P []
every_none P zero x at = absurd (cc)
every_none P (suc k) x at = absurd (cc)

pub every_more : {A : Type 0} (P : A → Type 0) (y : A) (xs : List A) → P y → Every P xs → Every P (y ∷ xs)
every_more P y xs p all zero x at = subst P (some_same y x at) p
every_more P y xs p all (suc k) x at = all k x at

pub every_left : {A : Type 0} (P : A → Type 0) (xs ys : List A) → Every P (xs ++ ys) → Every P xs
every_left P [] ys all zero x at = absurd (cc)
every_left P [] ys all (suc k) x at = absurd (cc)
every_left P (y ∷ xs) ys all zero x at = all zero x at
every_left P (y ∷ xs) ys all (suc k) x at = every_left P xs ys (λ j z is. all (suc j) z is) k x at

pub every_right : {A : Type 0} (P : A → Type 0) (xs ys : List A) → Every P (xs ++ ys) → Every P ys
every_right P [] ys all = all
every_right P (y ∷ xs) ys all = every_right P xs ys (λ j z is. all (suc j) z is)

pub every_both : {A : Type 0} (P : A → Type 0) (xs ys : List A) → Every P xs → Every P ys → Every P (xs ++ ys)
every_both P [] ys some rest k x at = rest k x at
every_both P (y ∷ xs) ys some rest zero x at = some zero x at
every_both P (y ∷ xs) ys some rest (suc k) x at = every_both P xs ys (λ j z is. some (suc j) z is) rest k x at

-- of what comes of an item, where it holds of all that comes of the list
pub every_at : {A B : Type 0} (P : B → Type 0) (f : A → List B) (xs : List A) → Every P (flat_map f xs) → (k : ℕ) (x : A) → slice_get xs k ≡ Some x → Every P (f x)
every_at P f [] all zero x at = absurd (cc)
every_at P f [] all (suc k) x at = absurd (cc)
every_at P f (y ∷ xs) all zero x at = subst (λ z. Every P (f z)) (some_same y x at) (every_left P (f y) (flat_map f xs) all)
every_at P f (y ∷ xs) all (suc k) x at = every_at P f xs (every_right P (f y) (flat_map f xs) all) k x at

-- what is there
pub there : {A : Type 0} (o : Option A) → is_some o ≡ true → (x : A) × (o ≡ Some x)
there None e = absurd (cc)
there (Some x) e = (x, refl)

pub map_there : {A B : Type 0} (f : A → B) (o : Option A) → is_some o ≡ true → is_some (option_map f o) ≡ true
map_there f None e = absurd (cc)
map_there f (Some x) e = refl

pub cons_there : {A : Type 0} (o : Option A) (rest : Option (List A)) → is_some o ≡ true → is_some rest ≡ true → is_some (option_and_then (λ y. option_map (λ ys. y ∷ ys) rest) o) ≡ true
cons_there None rest e f = absurd (cc)
cons_there (Some x) None e f = absurd (cc)
cons_there (Some x) (Some xs) e f = refl

-- a list of which every item stands for something does so too
pub each_there : {A B : Type 0} (said : A → Option B) (xs : List A) → Every (λ x. is_some (said x) ≡ true) xs → is_some (each_of said xs) ≡ true
unfolding each_of
each_there said [] all = refl
each_there said (x ∷ xs) all = cons_there (said x) (each_of said xs) (all zero x refl) (each_there said xs (λ k y at. all (suc k) y at))

pub given_there : {A B : Type 0} (said : A → Option B) (o : Option A) → ((x : A) → o ≡ Some x → is_some (said x) ≡ true) → is_some (if_given said o) ≡ true
unfolding if_given
given_there said None all = refl
given_there said (Some x) all = map_there Some (said x) (all x refl)
