-- The opening directory of an accepted definition breaks none of its rules.
use Rattle.std.proofs.Common.{◌≡◌, ◌∙◌, refl, sym, ap, subst, ℕ, suc, ◌+◌, Bool, true, false, cond, List, [], ◌∷◌, map, Option, Some, None, slice_get, arith}
use mathlib.Core.Path.{fun_ext}
use Rattle.std.specs.Prelude.{◌≢◌, ◌==◌, ◌||◌, not, codes, find, option_map, option_and_then, unwrap_or}
use Rattle.std.specs.List.{list_any}
use Rattle.std.specs.Option.{option_or}
use Rattle.std.proofs.lemmas.Bool.Decides.{nat_tests}
use Rattle.serde_json.specs.Data.{Data, null, boolean, number, string, array, object}
use Rattle.serde_json.specs.Find.{get}
use Rattle.dv_value.specs.Json.{json_of}
use Rattle.dv_value.specs.declared.id.Id.{Id}
use Rattle.dv_form.specs.Forms.{Member, real_id, value, object_of, is_same_id}
use Rattle.dv_form.specs.Members.{id_in, id_of_json, members_in}
use Rattle.dv_form.specs.Spellings.{is_spelled, passes}
use Rattle.dv_form.specs.Walk.{Violation, decided, fault_at, form_fault as fault_of_form, first_fault as walked, is_excluded, is_excluded_by, judged_member, judged_object, members_fault}
use Rattle.dv_form.proofs.Faultless.{or_none, member_free, plain_free}
use Rattle.dv_form.proofs.Faults.{fault_at_get}
use Rattle.dv_schema.specs.Form.{draft_in, fault_in, fault_of_read, form_fault, told}
use Rattle.dv_schema.specs.First.{first_from}
use Rattle.dv_schema.specs.Grammar.{schemas, needs, needs_unless}
use Rattle.dv_schema.specs.Names.{Name, place_of, same_name}
use Rattle.dv_schema.specs.Reading.{draft_of, opening_of as read_opening}
use Rattle.dv_schema.specs.Definitions.{tables_of}
use Rattle.dv_schema.specs.declared.definition.Definition.{Definition}
use Rattle.dv_schema.specs.declared.draft.Draft.{Draft}
use Rattle.dv_schema.specs.declared.draft.DraftTable.{DraftTable}
use Rattle.dv_schema.specs.declared.grammar.Rule.{Rule}
use Rattle.dv_schema.specs.declared.grammar.Rule.TheVariants as rule
use Rattle.dv_opening.specs.Opening.{bad_directory}
use Rattle.dv_meta.specs.Accepted.{table_of}
use Rattle.dv_meta.specs.Faults.{first_fault, of_kind, refusal_of}
use Rattle.dv_schema.specs.declared.fault.DefFault.{DefFault}
use Rattle.dv_schema.specs.declared.fault.DefKind.{DefKind}
use Rattle.dv_schema.specs.declared.fault.DefKind.TheVariants as kind
use Rattle.dv_meta.specs.NameTaken.{name_taken}
use Rattle.dv_meta.specs.Relations.{bad_cascade, ownership_clash, second_parent}
use Rattle.dv_meta.specs.Rollups.{bad_rollup}
use Rattle.dv_meta.specs.Steps.{unknown_step}
use Rattle.dv_meta.specs.UnknownName.{unknown_name}
use Rattle.dv_schema.specs.declared.place.Place.{Place}
use Rattle.dv_meta.specs.Named.{owned, table_named}
use Rattle.dv_meta.specs.Reader.{IsAccepted}
use Rattle.dv_meta.proofs.FoundLaws.{option_map-none}
use Rattle.dv_meta.proofs.NumbersLaws.{same_name-sym}
use Rattle.dv_roles.specs.Entries.{owned_at}
use Rattle.dv_roles.specs.Seen.{OpensWell}

-- ---- the root unit and the administrator have two ids that aren't nil

-- a member of an object that has no fault
abbrev Free : Data → Member Rule → Type 0
Free d m = judged_member d m (fault_at schemas (members_in d) m.name m.form) ≡ None

-- a member that has to be there is
there : (d : Data) (m : Member Rule) (o : Option Data) → m.needed ≡ true → get m.name d ≡ o → Free d m → (v : Data) × (get m.name d ≡ Some v)
unfolding judged_member
there d m (Some v) needed g free = (v, g)
there d m None needed g free =
    let missing : judged_member d m None ≡ None = subst (λ o. judged_member d m o ≡ None) (fault_at_get schemas d m.name m.form None g) free in
    absurd (cc)

-- what has no fault passes its test
held : {A : Type 0} (b : Bool) (x : A) → cond b None (Some x) ≡ None → b ≡ true
held true x e = refl
held false x e = absurd (cc)

-- an id that isn't nil
spelled : (d : Data) → walked schemas d (value real_id) ≡ None → is_spelled real_id d ≡ true
unfolding walked fault_of_form
spelled null e = held _ _ e
spelled (boolean b) e = held _ _ e
spelled (number n) e = held _ _ e
spelled (string s) e = held _ _ e
spelled (array ds) e = held _ _ e
spelled (object ms) e = held _ _ e

-- the id that such a value is
record IsReal (d : Data) : Type 0 where
  id : Id
  read : id_in d ≡ Some id
  real : id.0 ≢ 0

real_by : (d : Data) (o : Option Id) → id_in d ≡ o → passes (λ id. not (id.0 == 0)) o ≡ true → IsReal d
real_by d None e p = absurd (cc)
real_by d (Some id) e p = record { id = id; read = e; real = λ nil. grind (arith, nat_tests) }

real : (d : Data) → walked schemas d (value real_id) ≡ None → IsReal d
unfolding is_spelled
real d e = real_by d (id_in d) refl (spelled d e)

-- the first two members of a definition
abbrev root_member : Member Rule
root_member = needs "root" (value real_id)

abbrev admin_member : Member Rule
admin_member = needs_unless "admin" (value real_id) (is_same_id (codes "root") ∷ [])

record BothFree (d : Data) : Type 0 where
  root : Free d root_member
  admin : Free d admin_member

both_free : (d : Data) → walked schemas d (object_of rule.Definition) ≡ None → BothFree d
unfolding schemas judged_object decided members_fault
both_free d e =
    let members = (or_none _ _ (or_none _ _ (plain_free schemas d rule.Definition e)).1).0 in
    let from_root = or_none _ _ members in
    record { root = from_root.0; admin = (or_none _ _ from_root.1).0 }

-- the value of a member that has to be an id, and the id
record HasId (d : Data) (m : Member Rule) : Type 0 where
  own : Data
  found : get m.name d ≡ Some own
  id : IsReal own

has_id : (d : Data) (m : Member Rule) → m.needed ≡ true → m.form ≡ value real_id → Free d m → HasId d m
has_id d m needed form free =
    let found = there d m (get m.name d) needed refl free in
    record { own = found.0; found = found.1; id = real found.0 (subst (λ f. walked schemas found.0 f ≡ None) form (member_free schemas d found.0 m free found.1)) }

-- the id is what is read there
read_at : (d : Data) (m : Member Rule) (h : HasId d m) → id_of_json (unwrap_or (get m.name d) null) ≡ h.id.id
unfolding id_of_json
read_at d m h = ap (λ o. unwrap_or (id_in (unwrap_or o null)) (record { 0 = 0 })) h.found ∙ ap (λ o. unwrap_or o (record { 0 = 0 })) h.id.read

-- the administrator isn't the root unit
not_excluded : (b : Bool) {A : Type 0} (x : A) (y : Option A) → cond b (Some x) y ≡ None → b ≡ false
not_excluded true x y e = absurd (cc)
not_excluded false x y e = refl

or_left : (b c : Bool) → (b || c) ≡ false → b ≡ false
or_left true c e = e
or_left false c e = refl

-- what is asked of two ids that are there
asked_of : (o p : Option Id) (x y : Id) → o ≡ Some x → p ≡ Some y → passes (λ id. passes (λ other. id.0 == other.0) p) o ≡ false → (x.0 == y.0) ≡ false
asked_of o p x y e f q =
    let at_first : passes (λ id. passes (λ other. id.0 == other.0) p) (Some x) ≡ false = subst (λ z. passes (λ id. passes (λ other. id.0 == other.0) p) z ≡ false) e q in
    subst (λ z. passes (λ other. x.0 == other.0) z ≡ false) f at_first

-- an exclusion that doesn't hold
not_by : (d : Data) (own : Data) (x : Id) (y : Id) (root : Data) → id_in own ≡ Some x → get (codes "root") d ≡ Some root → id_in root ≡ Some y
    → is_excluded_by d own (is_same_id (codes "root")) ≡ false → (x.0 == y.0) ≡ false
unfolding is_excluded_by
not_by d own x y root e g f q = asked_of (id_in own) (option_and_then id_in (get (codes "root") d)) x y e (ap (option_and_then id_in) g ∙ f) q

none_holds : (d own : Data) (m : Member Rule) (o : Option Data) → get m.name d ≡ o → o ≡ Some own → is_excluded d m ≡ false → list_any (is_excluded_by d own) m.excluded_by ≡ false
unfolding is_excluded
none_holds d own m o g e q = subst (λ z. passes (λ it. list_any (is_excluded_by d it) m.excluded_by) z ≡ false) (g ∙ e) q

differ : (x y : ℕ) → (x == y) ≡ false → x ≢ y
differ x y e same = grind (arith, nat_tests)

kept_in : (d v : Data) (m : Member Rule) → get m.name d ≡ Some v → Free d m → is_excluded d m ≡ false
unfolding judged_member
kept_in d v m g free = not_excluded _ _ _ (subst (λ o. judged_member d m o ≡ None) (fault_at_get schemas d m.name m.form (Some v) g) free)

apart : (d : Data) (r : HasId d root_member) (a : HasId d admin_member) → Free d admin_member → a.id.id.0 ≢ r.id.id.0
apart d r a free =
    let holds = none_holds d a.own admin_member _ refl a.found (kept_in d a.own admin_member a.found free) in
    differ a.id.id.0 r.id.id.0 (not_by d a.own a.id.id r.id.id r.own a.id.read r.found r.id.read (or_left _ false holds))

-- ---- and the rules of the directory are those of the definition

-- whether users own the rows of the table of a name, among the tables of a definition
abbrev owned_of : Draft → List DraftTable → Name → Option Bool
owned_of draft ts name = option_map (λ table. table.user_owned) (find (λ table. same_name table.name name) (map (table_of draft) ts))

-- the same among those of the text from a number on
abbrev owned_from : List DraftTable → ℕ → List DraftTable → Name → Option Bool
owned_from all i ts name = option_map (λ table. table.user_owned) (option_and_then (slice_get all) (first_from (λ k x. cond (same_name name x) (Some k) None) i (map (λ t. t.name) ts)))

named_at : (draft : Draft) (all : List DraftTable) (t : DraftTable) (ts : List DraftTable) (i : ℕ) (name : Name) (b : Bool) → slice_get all i ≡ Some t
    → owned_of draft ts name ≡ owned_from all (i + 1) ts name → same_name name t.name ≡ b → owned_of draft (t ∷ ts) name ≡ owned_from all i (t ∷ ts) name
unfolding first_from table_of
named_at draft all t ts i name true here rest e = rw (e, same_name-sym name t.name true e, here)
named_at draft all t ts i name false here rest e = rw (e, same_name-sym name t.name false e) rest

named : (draft : Draft) (all : List DraftTable) (ts : List DraftTable) (i : ℕ) (name : Name) → ((j : ℕ) → slice_get all (i + j) ≡ slice_get ts j) → owned_of draft ts name ≡ owned_from all i ts name
unfolding first_from
named draft all [] i name from = refl
named draft all (t ∷ ts) i name from =
    let here : slice_get all i ≡ Some t = ap (slice_get all) (omega arith) ∙ from 0 in
    let behind : (j : ℕ) → slice_get all (i + 1 + j) ≡ slice_get ts j = λ j. ap (slice_get all) (omega arith) ∙ from (suc j) in
    named_at draft all t ts i name _ here (named draft all ts (i + 1) name behind) refl

owned_alike : (draft : Draft) (d : Definition) (name : Name) → tables_of d ≡ map (table_of draft) draft.tables → owned_at d name ≡ owned draft name
unfolding table_named place_of
owned_alike draft d name e = ap (λ ts. option_map (λ table. table.user_owned) (find (λ table. same_name table.name name) ts)) e ∙ named draft draft.tables draft.tables 0 name (λ j. ap (slice_get draft.tables) (omega arith))

-- the last of eight that all find nothing
last_none : {A : Type 0} (a b c d e f g h : Option A) → option_or a (option_or b (option_or c (option_or d (option_or e (option_or f (option_or g h)))))) ≡ None → h ≡ None
last_none a b c d e f g h none =
    (or_none g h (or_none f _ (or_none e _ (or_none d _ (or_none c _ (or_none b _ (or_none a _ none).1).1).1).1).1).1).1

no_place : (kind : DefKind) (place : Option Place) → of_kind kind place ≡ None → place ≡ None
no_place kind None e = refl
no_place kind (Some p) e = absurd (cc)

-- the pass over the opening directory finds none
no_bad : (draft : Draft) (steps : ℕ) → first_fault draft steps ≡ None → bad_directory (owned draft) draft.opening ≡ None
unfolding first_fault
no_bad draft steps e = no_place kind.BadDirectory _ (last_none
    (of_kind kind.NameTaken (name_taken draft)) (of_kind kind.UnknownName (unknown_name draft)) (of_kind kind.BadCascade (bad_cascade draft))
    (of_kind kind.OwnershipClash (ownership_clash draft)) (of_kind kind.SecondParent (second_parent draft)) (of_kind kind.BadRollup (bad_rollup draft))
    (of_kind kind.UnknownStep (unknown_step steps draft)) (of_kind kind.BadDirectory (bad_directory (owned draft) draft.opening)) e)

not_first : {A : Type 0} (b : Bool) (x : A) (y : Option A) → cond b (Some x) y ≡ None → y ≡ None
not_first true x y e = absurd (cc)
not_first false x y e = e

object_free : (b : Bool) (found : Option Violation) (whole : DefFault) → cond b (option_map told found) (Some whole) ≡ None → found ≡ None
object_free true found whole e = option_map-none _ _ e
object_free false found whole e = absurd (cc)

read_free : (o : Option Data) → fault_of_read o ≡ None → walked schemas (unwrap_or o null) (object_of rule.Definition) ≡ None
unfolding fault_of_read fault_in
read_free None e = absurd (cc)
read_free (Some d) e = object_free _ _ _ e

-- the value that an accepted text is has no fault of form
walked_free : (bytes : List ℕ) → form_fault bytes ≡ None → walked schemas (unwrap_or (json_of bytes) null) (object_of rule.Definition) ≡ None
unfolding form_fault
walked_free bytes e = read_free (json_of bytes) (not_first _ _ _ e)

-- the opening directory that is read of a value
record StartsApart (d : Data) : Type 0 where
  root : (read_opening d).root.0 ≢ 0
  admin : (read_opening d).admin.0 ≢ 0
  different : (read_opening d).admin.0 ≢ (read_opening d).root.0

starts_apart : (d : Data) → walked schemas d (object_of rule.Definition) ≡ None → StartsApart d
unfolding read_opening
starts_apart d e =
    let free = both_free d e in
    let root = has_id d root_member refl refl free.root in
    let admin = has_id d admin_member refl refl free.admin in
    let root_is = ap (λ id. id.0) (read_at d root_member root) in
    let admin_is = ap (λ id. id.0) (read_at d admin_member admin) in
    record {
      root = subst (λ n. n ≢ 0) (sym root_is) root.id.real;
      admin = subst (λ n. n ≢ 0) (sym admin_is) admin.id.real;
      different = λ same. apart d root admin free.admin (sym admin_is ∙ same ∙ root_is);
    }

pub opens_well : (bytes : List ℕ) (d : Definition) → IsAccepted bytes 0 d → OpensWell d
unfolding draft_in draft_of
opens_well bytes d accepted =
    let faultless = or_none _ _ accepted.faultless in
    let start = starts_apart (unwrap_or (json_of bytes) null) (walked_free bytes faultless.0) in
    let opening = accepted.meaning.opening in
    let none = no_bad (draft_in bytes) 0 (option_map-none refusal_of (first_fault (draft_in bytes) 0) faultless.1) in
    record {
      root = subst (λ o. o.root.0 ≢ 0) (sym opening) start.root;
      admin = subst (λ o. o.admin.0 ≢ 0) (sym opening) start.admin;
      apart = subst (λ o. o.admin.0 ≢ o.root.0) (sym opening) start.different;
      items = rw (opening, fun_ext (λ name. owned_alike (draft_in bytes) d name accepted.meaning.tables)) none;
    }
