-- The steps of the walk, each over plain variables.
use Rattle.std.proofs.Common.{◌≡◌, ◌∙◌, sym, refl, ap, ℕ, suc, ◌+◌, ◌<◌, ◌||◌, Bool, true, false, List, [], ◌∷◌, map, length, Option, Some, None, option_map, Ordering, Less, Equal, Greater, nat_cmp, bytes_eq, cond, add-one, get_or, drop, eqb, eq-eqb}
use Rattle.std.proofs.lemmas.List.{drop_more, length-map}
use Rattle.std.proofs.lemmas.Bool.{ne_eqb}
use Rattle.std.specs.Cmp.Lexicographic.{slice_cmp}
use Rattle.std.specs.List.{list_any}
use Rattle.std.specs.Option.{option_or, is_some}
use Rattle.std.specs.Ordering.{match_ordering}
use Rattle.serde_json.specs.Data.{Data, null, boolean, number, string, array, object, Items, no_items, Members, no_members, member}
use Rattle.serde_json.specs.Events.{items_len}
use Rattle.serde_json.specs.Find.{get, get_member, as_array, as_object}
use Rattle.serde_json.specs.View.{view, items_view}
use Rattle.serde_json.specs.declared.value.Value.{Value}
use Rattle.dv_value.specs.Raws.{raw_of}
use Rattle.dv_form.specs.Forms as plain
use Rattle.dv_form.specs.Forms.{Schema}
use Rattle.dv_form.specs.LocalFaults.{local_of, within_member, within_item}
use Rattle.dv_form.specs.Members.{members_in}
use Rattle.dv_form.specs.Places.{into_member, into_item, path_text, step_text, is_named}
use Rattle.dv_form.specs.Spellings.{is_spelled}
use Rattle.dv_form.specs.Schemas.{spelling_of, form_of, exclusion_of, member_of, case_of}
use Rattle.dv_form.specs.Walk as walk
use Rattle.dv_form.specs.Walk.{judged_member, judged_object, inside, here, unless_holds, raw_values_fault, spelled_items_fault, tuple_fault, distinct_fault, is_excluded, is_excluded_by, further, is_listed, unlisted_fault, member_fault, members_fault, object_fault, is_over, form_fault, first_fault, items_fault, fault_at}
use Rattle.dv_form.specs.declared.fault.FaultKind.TheVariants.{Unlisted, Wrong, TooLong}
use Rattle.dv_form.specs.declared.local_fault.LocalFault.{LocalFault}
use Rattle.dv_form.specs.declared.form.Case.{Case}
use Rattle.dv_form.specs.declared.form.Form.{Form}
use Rattle.dv_form.specs.declared.form.Member.{Member}
use Rattle.dv_form.specs.declared.spelling.Spelling.{Spelling}
use Rattle.dv_form.proofs.Reading.{get_member-members_in}

-- a test of what each item gives
pub list_any_map : {A B : Type 0} (p : B → Bool) (f : A → B) (xs : List A) → list_any p (map f xs) ≡ list_any (λ x. p (f x)) xs
list_any_map p f [] = refl
list_any_map p f (x ∷ xs) = ap (λ rest. p (f x) || rest) (list_any_map p f xs)

-- ---- what the code has of a fault

pub told_member : (out before : LocalFault) (n m : List ℕ) (f : walk.Violation) → out ≡ within_member n before → before ≡ local_of f → n ≡ m → out ≡ local_of (inside (into_member m) f)
unfolding path_text step_text is_named
told_member out before n m f e b s = e ∙ ap (within_member n) b ∙ ap (λ name. within_member name (local_of f)) s

pub told_item : (out before : LocalFault) (i : ℕ) (f : walk.Violation) → out ≡ within_item i before → before ≡ local_of f → out ≡ local_of (inside (into_item i) f)
unfolding path_text step_text is_named
told_item out before i f e b = e ∙ ap (within_item i) b

pub told : (r : Option walk.Violation) (f : walk.Violation) (out : LocalFault) → r ≡ Some f → out ≡ local_of f → Some out ≡ option_map local_of r
told r f out e o = ap Some o ∙ sym (ap (option_map local_of) e)

pub told_none : (r : Option walk.Violation) → r ≡ None → None ≡ option_map local_of r
told_none r e = sym (ap (option_map local_of) e)

pub told_inside_member : (u : Option walk.Violation) (x out : LocalFault) (n : List ℕ) → option_map local_of u ≡ Some x → out ≡ within_member n x → Some out ≡ option_map local_of (option_map (inside (into_member n)) u)
told_inside_member None x out n e o = absurd (cc)
told_inside_member (Some w) x out n e o = let same : x ≡ local_of w = cc in ap Some (told_member out x n n w o same refl)

pub told_inside_item : (u : Option walk.Violation) (x out : LocalFault) (i : ℕ) → option_map local_of u ≡ Some x → out ≡ within_item i x → Some out ≡ option_map local_of (option_map (inside (into_item i)) u)
told_inside_item None x out i e o = absurd (cc)
told_inside_item (Some w) x out i e o = let same : x ≡ local_of w = cc in ap Some (told_item out x i w o same)

pub none_inside : (u : Option walk.Violation) (step : _) → option_map local_of u ≡ None → option_map (inside step) u ≡ None
none_inside None step e = refl
none_inside (Some w) step e = absurd (cc)

pub or_first : (u rest : Option walk.Violation) (x : LocalFault) → Some x ≡ option_map local_of u → Some x ≡ option_map local_of (option_or u rest)
or_first None rest x e = absurd (cc)
or_first (Some w) rest x e = e

pub or_next : (u rest : Option walk.Violation) → option_map local_of u ≡ None → option_or u rest ≡ rest
or_next None rest e = refl
or_next (Some w) rest e = absurd (cc)

pub none_or : (u rest : Option walk.Violation) → u ≡ None → option_or u rest ≡ rest
none_or u rest e = ap (λ v. option_or v rest) e

-- ---- schemas

pub case_here : {R : Type 0} (word : List ℕ) (c : Case R) (cs : List (Case R)) → bytes_eq c.word.now word ≡ true → walk.case_of word (map case_of (c ∷ cs)) ≡ Some (map member_of c.members.now)
unfolding walk.case_of
case_here word c cs e = rw e refl

pub case_later : {R : Type 0} (word : List ℕ) (c : Case R) (cs : List (Case R)) → bytes_eq c.word.now word ≡ false → walk.case_of word (map case_of (c ∷ cs)) ≡ walk.case_of word (map case_of cs)
unfolding walk.case_of
case_later word c cs e = rw e refl

pub case_nowhere : {R : Type 0} (word : List ℕ) → walk.case_of {R = R} word [] ≡ None
unfolding walk.case_of
case_nowhere word = refl

is_excluded_given : {R : Type 0} (d own : Data) (m : Member R) → get m.name.now d ≡ Some own → is_excluded d (member_of m) ≡ list_any (λ exclusion. is_excluded_by d own (exclusion_of exclusion)) m.excluded_by.now
unfolding is_excluded
is_excluded_given d own m e = rw e (list_any_map (is_excluded_by d own) exclusion_of m.excluded_by.now)

pub members_in_object : (d : Data) (ms : Members) → as_object d ≡ Some ms → members_in d ≡ ms
unfolding members_in
members_in_object null ms e = absurd (cc)
members_in_object (boolean b) ms e = absurd (cc)
members_in_object (number n) ms e = absurd (cc)
members_in_object (string s) ms e = absurd (cc)
members_in_object (array ds) ms e = absurd (cc)
members_in_object (object ms') ms e = cc

pub members_in_none : (d : Data) → as_object d ≡ None → members_in d ≡ no_members
unfolding members_in
members_in_none null e = refl
members_in_none (boolean b) e = refl
members_in_none (number n) e = refl
members_in_none (string s) e = refl
members_in_none (array ds) e = refl
members_in_none (object ms) e = absurd (cc)

pub unlisted_none : {R : Type 0} (a b : List (plain.Member R)) → unlisted_fault a b no_members ≡ None
unfolding unlisted_fault
unlisted_none a b = refl

pub unlisted_here : {R : Type 0} (a b : List (plain.Member R)) (name : List ℕ) (d : Data) (ms : Members) → (is_listed a name || is_listed b name) ≡ false → unlisted_fault a b (member name d ms) ≡ Some (inside (into_member name) (here Unlisted))
unfolding unlisted_fault
unlisted_here a b name d ms e = rw e refl

pub unlisted_later : {R : Type 0} (a b : List (plain.Member R)) (name : List ℕ) (d : Data) (ms : Members) → (is_listed a name || is_listed b name) ≡ true → unlisted_fault a b (member name d ms) ≡ unlisted_fault a b ms
unfolding unlisted_fault
unlisted_later a b name d ms e = rw e refl

-- whether one of two lists has a name, as it was asked about a text with the same bytes
pub listed_as : {R : Type 0} (a b : List (plain.Member R)) (seen name : List ℕ) (listed answer : Bool) → seen ≡ name → listed ≡ (is_listed a seen || is_listed b seen) → listed ≡ answer
    → (is_listed a name || is_listed b name) ≡ answer
listed_as a b seen name listed answer s l e = ap (λ n. is_listed a n || is_listed b n) (sym s) ∙ sym l ∙ e

-- ---- parts

pub raw_here : (name : List ℕ) (d : Data) (ms : Members) → is_some (raw_of d) ≡ false → raw_values_fault (member name d ms) ≡ Some (inside (into_member name) (here Wrong))
unfolding raw_values_fault
raw_here name d ms e = rw e refl

pub raw_later : (name : List ℕ) (d : Data) (ms : Members) → is_some (raw_of d) ≡ true → raw_values_fault (member name d ms) ≡ raw_values_fault ms
unfolding raw_values_fault
raw_later name d ms e = rw e refl

pub raw_none : raw_values_fault no_members ≡ None
unfolding raw_values_fault
raw_none = refl

pub items_len_view : (vs : List Value) → items_len (items_view vs) ≡ length vs
items_len_view [] = refl
items_len_view (v ∷ vs) = ap suc (items_len_view vs)

pub spelled_here : (s : Spelling) (ss : List Spelling) (i : ℕ) (v : Value) (vs : List Value) → is_spelled (spelling_of s) (view v) ≡ false
    → spelled_items_fault (map spelling_of (s ∷ ss)) i (items_view (v ∷ vs)) ≡ Some (inside (into_item i) (here Wrong))
unfolding spelled_items_fault
spelled_here s ss i v vs e = rw e refl

pub spelled_later : (s : Spelling) (ss : List Spelling) (i : ℕ) (v : Value) (vs : List Value) → is_spelled (spelling_of s) (view v) ≡ true
    → spelled_items_fault (map spelling_of (s ∷ ss)) i (items_view (v ∷ vs)) ≡ spelled_items_fault (map spelling_of ss) (i + 1) (items_view vs)
unfolding spelled_items_fault
spelled_later s ss i v vs e = rw (e, add-one) refl

pub spelled_all : (i : ℕ) (ds : Items) → spelled_items_fault [] i ds ≡ None
unfolding spelled_items_fault
spelled_all i ds = refl

pub spelled_next : (ss : List Spelling) (vs : List Value) (i : ℕ) (d : Spelling) (v : Value) → i < length ss → i < length vs → v ≡ get_or vs i v
    → spelled_items_fault (map spelling_of (drop i ss)) i (items_view (drop i vs)) ≡ spelled_items_fault (map spelling_of (get_or ss i d ∷ drop (i + 1) ss)) i (items_view (v ∷ drop (i + 1) vs))
spelled_next ss vs i d v h k e = rw (drop_more ss i d h, drop_more vs i v k, ← e) refl

tuple_choice : (ss : List Spelling) (vs : List Value) (b : Bool) → eqb (length vs) (length ss) ≡ b → tuple_fault (map spelling_of ss) (items_view vs) ≡ cond b (spelled_items_fault (map spelling_of ss) 0 (items_view vs)) (Some (here Wrong))
unfolding tuple_fault
tuple_choice ss vs b e = rw (items_len_view vs, length-map, e) refl

pub tuple_longer : (ss : List Spelling) (vs : List Value) → (length vs ≡ length ss → ⊥) → tuple_fault (map spelling_of ss) (items_view vs) ≡ Some (here Wrong)
tuple_longer ss vs h = tuple_choice ss vs false (ne_eqb _ _ h)

pub tuple_same : (ss : List Spelling) (vs : List Value) → length vs ≡ length ss → tuple_fault (map spelling_of ss) (items_view vs) ≡ spelled_items_fault (map spelling_of ss) 0 (items_view vs)
tuple_same ss vs h = tuple_choice ss vs true (eq-eqb _ _ h)

-- ---- a value under a form

array_is : (d : Data) (ds : Items) → as_array d ≡ Some ds → d ≡ array ds
array_is null ds e = absurd (cc)
array_is (boolean b) ds e = absurd (cc)
array_is (number n) ds e = absurd (cc)
array_is (string s) ds e = absurd (cc)
array_is (array ds') ds e = let same : ds' ≡ ds = cc in ap array same
array_is (object ms) ds e = absurd (cc)

object_is : (d : Data) (ms : Members) → as_object d ≡ Some ms → d ≡ object ms
object_is null ms e = absurd (cc)
object_is (boolean b) ms e = absurd (cc)
object_is (number n) ms e = absurd (cc)
object_is (string s) ms e = absurd (cc)
object_is (array ds) ms e = absurd (cc)
object_is (object ms') ms e = let same : ms' ≡ ms = cc in ap object same

-- a form that is another
pub form_at : {R : Type 0} (schemas : R → Schema R) (d : Data) (form other : Form R) → form ≡ other → first_fault schemas d (form_of form) ≡ first_fault schemas d (form_of other)
form_at schemas d form other e = ap (λ f. first_fault schemas d (form_of f)) e

pub value_is : {R : Type 0} (schemas : R → Schema R) (d : Data) (s : plain.Spelling) → first_fault schemas d (plain.value s) ≡ unless_holds (is_spelled s d)
unfolding first_fault form_fault
value_is schemas null s = refl
value_is schemas (boolean b) s = refl
value_is schemas (number n) s = refl
value_is schemas (string t) s = refl
value_is schemas (array ds) s = refl
value_is schemas (object ms) s = refl

pub raw_values_given : {R : Type 0} (schemas : R → Schema R) (d : Data) (ms : Members) → as_object d ≡ Some ms → first_fault schemas d plain.raw_values ≡ raw_values_fault ms
unfolding first_fault form_fault
raw_values_given schemas d ms e = rw (object_is d ms e) refl

pub object_given : {R : Type 0} (schemas : R → Schema R) (d : Data) (ms : Members) (r : R) → as_object d ≡ Some ms → first_fault schemas d (plain.object_of r) ≡ object_fault (schemas r) d (fault_at schemas (members_in d))
unfolding first_fault form_fault members_in
object_given schemas d ms r e = rw (object_is d ms e) refl

pub tuple_given : {R : Type 0} (schemas : R → Schema R) (d : Data) (ds : Items) (ss : List plain.Spelling) → as_array d ≡ Some ds → first_fault schemas d (plain.tuple_of ss) ≡ tuple_fault ss ds
unfolding first_fault form_fault
tuple_given schemas d ds ss e = rw (array_is d ds e) refl

pub distinct_given : {R : Type 0} (schemas : R → Schema R) (d : Data) (ds : Items) → as_array d ≡ Some ds → first_fault schemas d (plain.distinct_integers) ≡ distinct_fault ds
unfolding first_fault form_fault
distinct_given schemas d ds e = rw (array_is d ds e) refl

pub list_over : {R : Type 0} (schemas : R → Schema R) (d : Data) (ds : Items) (form : plain.Form R) (most : Option ℕ) → as_array d ≡ Some ds → is_over most (items_len ds) ≡ true → first_fault schemas d (plain.list_of form most) ≡ Some (here TooLong)
unfolding first_fault form_fault
list_over schemas d ds form most e o = rw (array_is d ds e, o) refl

pub list_within : {R : Type 0} (schemas : R → Schema R) (d : Data) (ds : Items) (form : plain.Form R) (most : Option ℕ) → as_array d ≡ Some ds → is_over most (items_len ds) ≡ false → first_fault schemas d (plain.list_of form most) ≡ items_fault schemas ds 0 form
unfolding first_fault form_fault
list_within schemas d ds form most e o = rw (array_is d ds e, o) refl

pub no_raw_values : {R : Type 0} (schemas : R → Schema R) (d : Data) → as_object d ≡ None → first_fault schemas d plain.raw_values ≡ Some (here Wrong)
unfolding first_fault form_fault
no_raw_values schemas null e = refl
no_raw_values schemas (boolean b) e = refl
no_raw_values schemas (number n) e = refl
no_raw_values schemas (string s) e = refl
no_raw_values schemas (array ds) e = refl
no_raw_values schemas (object ms) e = absurd (cc)

pub no_object : {R : Type 0} (schemas : R → Schema R) (d : Data) (r : R) → as_object d ≡ None → first_fault schemas d (plain.object_of r) ≡ Some (here Wrong)
unfolding first_fault form_fault
no_object schemas null r e = refl
no_object schemas (boolean b) r e = refl
no_object schemas (number n) r e = refl
no_object schemas (string s) r e = refl
no_object schemas (array ds) r e = refl
no_object schemas (object ms) r e = absurd (cc)

pub no_tuple : {R : Type 0} (schemas : R → Schema R) (d : Data) (ss : List plain.Spelling) → as_array d ≡ None → first_fault schemas d (plain.tuple_of ss) ≡ Some (here Wrong)
unfolding first_fault form_fault
no_tuple schemas null ss e = refl
no_tuple schemas (boolean b) ss e = refl
no_tuple schemas (number n) ss e = refl
no_tuple schemas (string s) ss e = refl
no_tuple schemas (array ds) ss e = absurd (cc)
no_tuple schemas (object ms) ss e = refl

pub no_list : {R : Type 0} (schemas : R → Schema R) (d : Data) (form : plain.Form R) (most : Option ℕ) → as_array d ≡ None → first_fault schemas d (plain.list_of form most) ≡ Some (here Wrong)
unfolding first_fault form_fault
no_list schemas null form most e = refl
no_list schemas (boolean b) form most e = refl
no_list schemas (number n) form most e = refl
no_list schemas (string s) form most e = refl
no_list schemas (array ds) form most e = absurd (cc)
no_list schemas (object ms) form most e = refl

pub no_distinct : {R : Type 0} (schemas : R → Schema R) (d : Data) → as_array d ≡ None → first_fault schemas d (plain.distinct_integers) ≡ Some (here Wrong)
unfolding first_fault form_fault
no_distinct schemas null e = refl
no_distinct schemas (boolean b) e = refl
no_distinct schemas (number n) e = refl
no_distinct schemas (string s) e = refl
no_distinct schemas (array ds) e = absurd (cc)
no_distinct schemas (object ms) e = refl

-- ---- items and members

pub item_fault : {R : Type 0} (schemas : R → Schema R) (v : Value) (vs : List Value) (i : ℕ) (form : plain.Form R)
    → items_fault schemas (items_view (v ∷ vs)) i form ≡ option_or (option_map (inside (into_item i)) (first_fault schemas (view v) form)) (items_fault schemas (items_view vs) (i + 1) form)
unfolding items_fault
item_fault schemas v vs i form = rw add-one refl

pub no_items_fault : {R : Type 0} (schemas : R → Schema R) (i : ℕ) (form : plain.Form R) → items_fault schemas no_items i form ≡ None
unfolding items_fault
no_items_fault schemas i form = refl

pub members_fault_none : {R : Type 0} (d : Data) (look : List ℕ → plain.Form R → Option (Option walk.Violation)) → members_fault d look [] ≡ None
unfolding members_fault
members_fault_none d look = refl

pub members_fault_more : {R : Type 0} (d : Data) (look : List ℕ → plain.Form R → Option (Option walk.Violation)) (m : Member R) (ms : List (Member R)) → members_fault d look (map member_of (m ∷ ms)) ≡ option_or (member_fault d look (member_of m)) (members_fault d look (map member_of ms))
unfolding members_fault
members_fault_more d look m ms = refl

found_at : (o : Ordering) (rest : Option (Option walk.Violation)) (x : Option Data) (d : Data) (f : Data → Option walk.Violation) → rest ≡ option_map f x → match_ordering o rest (Some (f d)) rest ≡ option_map f (match_ordering o x (Some d) x)
found_at Less rest x d f e = e
found_at Equal rest x d f e = refl
found_at Greater rest x d f e = e

fault_at_member : {R : Type 0} (schemas : R → Schema R) (ms : Members) (name : List ℕ) (form : plain.Form R) → fault_at schemas ms name form ≡ option_map (λ e. first_fault schemas e form) (get_member name ms)
unfolding fault_at
fault_at_member schemas no_members name form = refl
fault_at_member schemas (member key d ms) name form = found_at (slice_cmp nat_cmp name key) _ _ d (λ e. first_fault schemas e form) (fault_at_member schemas ms name form)

-- what is wrong with the value under a name is what is wrong with that value
pub fault_at_get : {R : Type 0} (schemas : R → Schema R) (d : Data) (name : List ℕ) (form : plain.Form R) (o : Option Data) → get name d ≡ o → fault_at schemas (members_in d) name form ≡ option_map (λ e. first_fault schemas e form) o
fault_at_get schemas d name form o e = fault_at_member schemas (members_in d) name form ∙ ap (option_map (λ v. first_fault schemas v form)) (get_member-members_in name d ∙ e)

pub member_missing : {R : Type 0} (schemas : R → Schema R) (d : Data) (m : Member R) → get m.name.now d ≡ None → m.needed ≡ true → member_fault d (fault_at schemas (members_in d)) (member_of m) ≡ Some (inside (into_member m.name.now) (here Wrong))
unfolding judged_member
member_missing schemas d m e n = rw (fault_at_get schemas d m.name.now (form_of m.form) None e, n) refl

pub member_absent : {R : Type 0} (schemas : R → Schema R) (d : Data) (m : Member R) → get m.name.now d ≡ None → m.needed ≡ false → member_fault d (fault_at schemas (members_in d)) (member_of m) ≡ None
unfolding judged_member
member_absent schemas d m e n = rw (fault_at_get schemas d m.name.now (form_of m.form) None e, n) refl

pub member_excluded : {R : Type 0} (schemas : R → Schema R) (d v : Data) (m : Member R) → get m.name.now d ≡ Some v → list_any (λ exclusion. is_excluded_by d v (exclusion_of exclusion)) m.excluded_by.now ≡ true → member_fault d (fault_at schemas (members_in d)) (member_of m) ≡ Some (inside (into_member m.name.now) (here Wrong))
unfolding judged_member
member_excluded schemas d v m e b = rw (fault_at_get schemas d m.name.now (form_of m.form) (Some v) e, is_excluded_given d v m e, b) refl

pub member_inside : {R : Type 0} (schemas : R → Schema R) (d v : Data) (m : Member R) → get m.name.now d ≡ Some v → list_any (λ exclusion. is_excluded_by d v (exclusion_of exclusion)) m.excluded_by.now ≡ false → member_fault d (fault_at schemas (members_in d)) (member_of m) ≡ option_map (inside (into_member m.name.now)) (first_fault schemas v (form_of m.form))
unfolding judged_member
member_inside schemas d v m e b = rw (fault_at_get schemas d m.name.now (form_of m.form) (Some v) e, is_excluded_given d v m e, b) refl

pub object_undecided : {R : Type 0} (t : Schema R) (d : Data) (look : List ℕ → plain.Form R → Option (Option walk.Violation)) → further t d ≡ None → object_fault t d look ≡ members_fault d look t.members
unfolding judged_object
object_undecided t d look e = rw e refl

pub object_decided : {R : Type 0} (t : Schema R) (d : Data) (look : List ℕ → plain.Form R → Option (Option walk.Violation)) (more : List (plain.Member R)) → further t d ≡ Some more
    → object_fault t d look ≡ option_or (unlisted_fault t.members more (members_in d)) (option_or (members_fault d look t.members) (members_fault d look more))
unfolding judged_object
object_decided t d look more e = rw e refl
