-- Roles and teams of an opening directory.
use Rattle.std.proofs.Common.{◌≡◌, ℕ, ◌+◌, ◌<◌, ◌≤◌, Bool, true, false, cond, eqb, leb, ltb, List, [], ◌∷◌, ◌++◌, length, take, get_or, Option, Some, None, is_some, refl, sym, ap, ◌∙◌, arith, zero-add}
use Rattle.std.specs.Prelude.{◌||◌, sum_by}
use Rattle.std.specs.List.{list_any}
use Rattle.std.specs.Option.{option_or}
use Rattle.std.proofs.lemmas.List.{take_more}
use Rattle.std.proofs.lemmas.List.Sums.{sum_by-append}
use Rattle.std.proofs.lemmas.Bool.Decides.{nat_tests}
use Rattle.dv_schema.specs.declared.opening.Entry.{Entry}
use Rattle.dv_schema.specs.declared.opening.Opening.{Opening}
use Rattle.dv_schema.specs.declared.opening.OpeningTeam.{OpeningTeam}
use Rattle.dv_schema.specs.declared.place.Place.{Place}
use Rattle.dv_schema.specs.declared.place.Place.TheVariants as at
use Rattle.dv_opening.specs.Directory.{Directory, Cause, IdTaken, Full, adding_role, adding_entry}
use Rattle.dv_schema.specs.First.{first_from}
use Rattle.dv_schema.specs.Names.{Name}
use Rattle.dv_opening.specs.Opening.{member_count, overfull, team_alone_refused, team_refused, refused_team}

is_some-option_or : {A : Type 0} (a b : Option A) → is_some (option_or a b) ≡ (is_some a || is_some b)
is_some-option_or None b = refl
is_some-option_or (Some x) b = refl

-- something is found exactly where some item has something
pub is_some-first_from : {A B : Type 0} (g : A → Option B) (i : ℕ) (xs : List A) → is_some (first_from (λ k x. g x) i xs) ≡ list_any (λ x. is_some (g x)) xs
unfolding first_from
is_some-first_from g i [] = refl
is_some-first_from g i (x ∷ xs) = is_some-option_or (g x) (first_from (λ k x. g x) (i + 1) xs) ∙ ap (λ b. is_some (g x) || b) (is_some-first_from g (i + 1) xs)

is_some-cond : (b : Bool) (c : Cause) → is_some (cond b (Some c) None) ≡ b
is_some-cond true c = refl
is_some-cond false c = refl

taken_or : (a b : Bool) (rest : Option Cause) → a ≡ false → b ≡ false → is_some (cond (a || b) (Some IdTaken) rest) ≡ is_some rest
taken_or true b rest e f = absurd (cc)
taken_or false true rest e f = absurd (cc)
taken_or false false rest e f = refl

-- a role of a free id is refused where an entry is, or where there is no room
pub adding_role-free : (d : Directory) (owned : Name → Option Bool) (id : ℕ) (entries : List Entry) → eqb id 0 ≡ false → d.is_role id ≡ false
    → is_some (adding_role d owned id entries) ≡ (list_any (λ entry. is_some (adding_entry owned entry)) entries || leb 500 d.roles)
unfolding adding_role
adding_role-free d owned id entries e f =
    taken_or (eqb id 0) (d.is_role id) (option_or (first_from (λ i entry. adding_entry owned entry) 0 entries) (cond (leb 500 d.roles) (Some Full) None)) e f
    ∙ is_some-option_or (first_from (λ i entry. adding_entry owned entry) 0 entries) (cond (leb 500 d.roles) (Some Full) None)
    ∙ ap (λ b. b || is_some (cond (leb 500 d.roles) (Some Full) None)) (is_some-first_from (adding_entry owned) 0 entries)
    ∙ ap (λ b. list_any (λ entry. is_some (adding_entry owned entry)) entries || b) (is_some-cond (leb 500 d.roles) Full)

-- the place of a team that is refused
abbrev pub refused_at : Opening → ℕ → OpeningTeam → Option Place
refused_at o k team = cond (team_refused o k team) (Some (at.Team k)) None

pub refused_team-is : (o : Opening) → refused_team o ≡ first_from (refused_at o) 0 o.teams
unfolding refused_team
refused_team-is o = refl

-- one team more is counted
pub sum_by-take-more : (teams : List OpeningTeam) (k : ℕ) (team : OpeningTeam) → k < length teams → team ≡ get_or teams k team
    → sum_by member_count (take (k + 1) teams) ≡ sum_by member_count (take k teams) + member_count team
sum_by-take-more teams k team within read =
    ap (sum_by member_count) (take_more teams k team within ∙ ap (λ y. take k teams ++ y ∷ []) (sym read)) ∙ sum_by-append member_count (take k teams) (team ∷ [])
    ∙ ap (λ n. sum_by member_count (take k teams) + n) (zero-add (member_count team))

overfull_by : (k : ℕ) (o : Opening) (b : Bool) → (ltb 100000 (sum_by member_count (take (k + 1) o.teams)) ≡ b) → overfull o k ≡ b
unfolding overfull
overfull_by k o b e = e

pub eqb-no : (a b : ℕ) → (a ≡ b → ⊥) → eqb a b ≡ false
eqb-no a b h = grind (arith, nat_tests)

ltb-yes : (a b : ℕ) → a < b → ltb a b ≡ true
ltb-yes a b h = grind (arith, nat_tests)

ltb-no : (a b : ℕ) → b ≤ a → ltb a b ≡ false
ltb-no a b h = grind (arith, nat_tests)

pub overfull-yes : (o : Opening) (k : ℕ) → 100000 < sum_by member_count (take (k + 1) o.teams) → overfull o k ≡ true
overfull-yes o k h = overfull_by k o true (ltb-yes 100000 (sum_by member_count (take (k + 1) o.teams)) h)

pub overfull-no : (o : Opening) (k : ℕ) → sum_by member_count (take (k + 1) o.teams) ≤ 100000 → overfull o k ≡ false
overfull-no o k h = overfull_by k o false (ltb-no 100000 (sum_by member_count (take (k + 1) o.teams)) h)

-- a team that is refused by itself
pub refused_at-alone : (o : Opening) (k : ℕ) (team : OpeningTeam) → team_alone_refused o (k, team) ≡ true → refused_at o k team ≡ Some (at.Team k)
refused_at-alone o k team e = ap (λ b. cond (b || overfull o k) (Some (at.Team k)) None) e

-- a team for whose members there is no room
pub refused_at-over : (o : Opening) (k : ℕ) (team : OpeningTeam) → team_alone_refused o (k, team) ≡ false → overfull o k ≡ true → refused_at o k team ≡ Some (at.Team k)
refused_at-over o k team e f = ap (λ b. cond (b || overfull o k) (Some (at.Team k)) None) e ∙ ap (λ b. cond b (Some (at.Team k)) None) f

-- a team that is made
pub refused_at-none : (o : Opening) (k : ℕ) (team : OpeningTeam) → team_alone_refused o (k, team) ≡ false → overfull o k ≡ false → refused_at o k team ≡ None
refused_at-none o k team e f = ap (λ b. cond (b || overfull o k) (Some (at.Team k)) None) e ∙ ap (λ b. cond b (Some (at.Team k)) None) f
