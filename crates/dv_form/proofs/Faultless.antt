-- What the walk's finding no fault says of a value's parts.
use Rattle.std.proofs.Common.{◌≡◌, refl, ap, subst, ℕ, zero, suc, ◌≤◌, ltb, arith, Bool, true, false, cond, length, Option, Some, None}
use Rattle.std.specs.List.{slice_get}
use Rattle.std.proofs.lemmas.Bool.{ltb-false}
use Rattle.std.specs.Option.{option_map, option_or, unwrap_or}
use Rattle.serde_json.specs.Data.{Data, null, boolean, number, string, array, object, Items, no_items, item}
use Rattle.serde_json.specs.Events.{items_len}
use Rattle.serde_json.specs.Find.{get}
use Rattle.dv_form.specs.Forms.{Schema, Member, Form}
use Rattle.dv_form.specs.Forms as plain
use Rattle.dv_form.specs.Members.{data_list, list_of, members_in}
use Rattle.dv_form.specs.Places.{Step}
use Rattle.dv_form.specs.Walk.{Violation, inside, is_excluded, is_over, further, judged_member, judged_object, form_fault, first_fault, items_fault, fault_at}
use Rattle.dv_form.proofs.Faults.{fault_at_get}

pub or_none : {A : Type 0} (x y : Option A) → option_or x y ≡ None → (x ≡ None) × (y ≡ None)
or_none None y e = (refl, e)
or_none (Some a) y e = absurd (cc)

map_none : (step : Step) (x : Option Violation) → option_map (inside step) x ≡ None → x ≡ None
map_none step None e = refl
map_none step (Some f) e = absurd (cc)

excluded_none : {A : Type 0} (b : Bool) (x : A) (y : Option A) → cond b (Some x) y ≡ None → y ≡ None
excluded_none true x y e = absurd (cc)
excluded_none false x y e = e

-- the value of a member is of its form
pub member_free : {R : Type 0} (schemas : R → Schema R) (d v : Data) (m : Member R) → judged_member d m (fault_at schemas (members_in d) m.name m.form) ≡ None → get m.name d ≡ Some v → first_fault schemas v m.form ≡ None
unfolding judged_member
member_free schemas d v m e g =
    map_none _ _ (excluded_none (is_excluded d m) _ _ (subst (λ o. judged_member d m o ≡ None) (fault_at_get schemas d m.name m.form (Some v) g) e))

length_items : (ds : Items) → length (data_list ds) ≡ items_len ds
length_items no_items = refl
length_items (item d ds) = ap suc (length_items ds)

within : {A : Type 0} (most n : ℕ) (b : Bool) (x : A) (y : Option A) → ltb most n ≡ b → cond b (Some x) y ≡ None → n ≤ most
within most n true x y e q = absurd (cc)
within most n false x y e q = ltb-false most n e

-- a list has at most as many items as it may
pub list_free : {R : Type 0} (schemas : R → Schema R) (v : Data) (form : Form R) (most : ℕ) → first_fault schemas v (plain.list_of form (Some most)) ≡ None → length (list_of v) ≤ most
unfolding first_fault form_fault is_over list_of
list_free schemas null form most e = absurd (cc)
list_free schemas (boolean b) form most e = absurd (cc)
list_free schemas (number n) form most e = absurd (cc)
list_free schemas (string s) form most e = absurd (cc)
list_free schemas (array ds) form most e = rw (length_items ds) (within most (items_len ds) _ _ _ refl e)
list_free schemas (object ms) form most e = absurd (cc)

-- a member that is a list has at most as many items as it may
pub member_list_free : {R : Type 0} (schemas : R → Schema R) (d : Data) (m : Member R) (form : Form R) (most : ℕ) (o : Option Data) → get m.name d ≡ o → m.form ≡ plain.list_of form (Some most)
    → judged_member d m (fault_at schemas (members_in d) m.name m.form) ≡ None → length (list_of (unwrap_or o null)) ≤ most
unfolding list_of
member_list_free schemas d m form most None g f e = omega arith
member_list_free schemas d m form most (Some v) g f e = list_free schemas v form most (subst (λ x. first_fault schemas v x ≡ None) f (member_free schemas d v m e g))

items_free : {R : Type 0} (schemas : R → Schema R) (ds : Items) (i : ℕ) (form : Form R) (k : ℕ) (e : Data) → items_fault schemas ds i form ≡ None → slice_get (data_list ds) k ≡ Some e → first_fault schemas e form ≡ None
unfolding items_fault
items_free schemas no_items i form k e q g = absurd (cc)
items_free schemas (item d ds) i form zero e q g =
    let same : d ≡ e = cc in
    subst (λ x. first_fault schemas x form ≡ None) same (map_none _ _ (or_none _ _ q).0)
items_free schemas (item d ds) i form (suc k) e q g = items_free schemas ds (suc i) form k e (or_none _ _ q).1 g

-- each item of a list is of its form
pub list_item_free : {R : Type 0} (schemas : R → Schema R) (v : Data) (form : Form R) (most : ℕ) (k : ℕ) (e : Data) → first_fault schemas v (plain.list_of form (Some most)) ≡ None → slice_get (list_of v) k ≡ Some e → first_fault schemas e form ≡ None
unfolding first_fault form_fault is_over list_of
list_item_free schemas null form most k e q g = absurd (cc)
list_item_free schemas (boolean b) form most k e q g = absurd (cc)
list_item_free schemas (number n) form most k e q g = absurd (cc)
list_item_free schemas (string s) form most k e q g = absurd (cc)
list_item_free schemas (array ds) form most k e q g = items_free schemas ds 0 form k e (excluded_none (ltb most (items_len ds)) _ _ q) g
list_item_free schemas (object ms) form most k e q g = absurd (cc)

-- each item of a member that is a list is of its form
pub member_item_free : {R : Type 0} (schemas : R → Schema R) (d : Data) (m : Member R) (form : Form R) (most : ℕ) (o : Option Data) (k : ℕ) (e : Data) → get m.name d ≡ o → m.form ≡ plain.list_of form (Some most)
    → judged_member d m (fault_at schemas (members_in d) m.name m.form) ≡ None → slice_get (list_of (unwrap_or o null)) k ≡ Some e → first_fault schemas e form ≡ None
unfolding list_of
member_item_free schemas d m form most None k e g f q h = absurd (cc)
member_item_free schemas d m form most (Some v) k e g f q h = list_item_free schemas v form most k e (subst (λ x. first_fault schemas v x ≡ None) f (member_free schemas d v m q g)) h

-- an object that always has the same members has each of them free of faults
pub plain_free : {R : Type 0} (schemas : R → Schema R) (d : Data) (r : R) → first_fault schemas d (plain.object_of r) ≡ None
    → judged_object (schemas r).members (further (schemas r) d) d (fault_at schemas (members_in d)) ≡ None
unfolding first_fault form_fault members_in
plain_free schemas null r e = absurd (cc)
plain_free schemas (boolean b) r e = absurd (cc)
plain_free schemas (number n) r e = absurd (cc)
plain_free schemas (string s) r e = absurd (cc)
plain_free schemas (array ds) r e = absurd (cc)
plain_free schemas (object ms) r e = e
