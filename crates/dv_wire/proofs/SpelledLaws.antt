-- What the walk's finding no fault says of a request's members.
use Rattle.std.proofs.Common.{◌≡◌, ℕ, refl, subst, Bool, true, false, not, ◌&&◌, cond, List, [], ◌∷◌, Option, Some, None, option_map}
use Rattle.std.specs.List.{list_all}
use Rattle.std.specs.Option.{is_some}
use Rattle.serde_json.specs.Data.{Data}
use Rattle.serde_json.specs.Find.{get}
use Rattle.dv_form.specs.Forms.{Member, object_of}
use Rattle.dv_form.specs.LocalFaults.{fault_of}
use Rattle.dv_form.specs.Members.{members_in}
use Rattle.dv_form.specs.Walk.{Violation, judged_member, judged_object, members_fault, fault_at, first_fault, further, decided}
use Rattle.dv_form.proofs.Faultless.{or_none, member_free, plain_free}
use Rattle.dv_form.proofs.Faults.{fault_at_get}
use Rattle.dv_wire.specs.declared.grammar.Rule.{Rule}
use Rattle.dv_wire.specs.declared.grammar.Rule.TheVariants as rule
use Rattle.dv_wire.specs.declared.verb.Verb.{Verb}
use Rattle.dv_wire.specs.Grammar.{rules, members_for}
use Rattle.dv_wire.specs.Spelled.{is_met, IsSpelled, has_members}

no_fault : (x : Option Violation) → x ≡ None → not (is_some x) ≡ true
no_fault None e = refl
no_fault (Some f) e = absurd (cc)

not_needed : {A : Type 0} (b : Bool) (x : A) → cond b (Some x) None ≡ None → not b ≡ true
not_needed true x e = absurd (cc)
not_needed false x e = refl

both : (a b : Bool) → a ≡ true → b ≡ true → a && b ≡ true
both a b e f = rw (e, f) refl

met_by : (d : Data) (m : Member Rule) (o : Option Data) → get m.name d ≡ o → judged_member d m (fault_at rules (members_in d) m.name m.form) ≡ None
    → elim o [ None ↦ not m.needed | Some v ↦ not (is_some (first_fault rules v m.form)) ] ≡ true
unfolding judged_member
met_by d m None g e = not_needed m.needed _ (subst (λ x. judged_member d m x ≡ None) (fault_at_get rules d m.name m.form None g) e)
met_by d m (Some v) g e = no_fault _ (member_free rules d v m e g)

all_met : (d : Data) (ms : List (Member Rule)) → members_fault d (fault_at rules (members_in d)) ms ≡ None → list_all (is_met d) ms ≡ true
unfolding members_fault is_met
all_met d [] e = refl
all_met d (m ∷ ms) e = both _ _ (met_by d m (get m.name d) refl (or_none _ _ e).0) (all_met d ms (or_none _ _ e).1)

spelled_by : (d : Data) (own : List (Member Rule)) (f : Option (List (Member Rule))) → judged_object own f d (fault_at rules (members_in d)) ≡ None
    → (list_all (is_met d) own ≡ true) × ((more : List (Member Rule)) → f ≡ Some more → list_all (is_met d) more ≡ true)
unfolding judged_object
spelled_by d own None e = (all_met d own e, λ more is. absurd (cc))
spelled_by d own (Some ms) e =
    let members = or_none _ _ (or_none _ _ e).1 in
    (all_met d own members.0, λ more is. let same : ms ≡ more = cc in subst (λ x. list_all (is_met d) x ≡ true) same (all_met d ms members.1))

-- a value without a fault has the members of a request
pub spelled-request : (d : Data) → first_fault rules d (object_of rule.Request) ≡ None → IsSpelled d
spelled-request d e =
    let both = spelled_by d (rules rule.Request).members (further (rules rule.Request) d) (plain_free rules d rule.Request e) in
    record { own = both.0; further = both.1 }

untold : (o : Option Violation) → None ≡ option_map fault_of o → o ≡ None
untold None is = refl
untold (Some f) is = absurd (cc)

-- a line without a fault has the members of a request
pub spelled-line : (json : Option Data) (d e : Data) → json ≡ Some e → None ≡ option_map fault_of (first_fault rules e (object_of rule.Request)) → json ≡ Some d → IsSpelled d
spelled-line json d e is free given =
    let same : e ≡ d = cc in
    subst IsSpelled same (spelled-request e (untold _ free))

-- a body without a fault has the members of its message
pub spelled-body : (verb : Verb) (json : Option Data) (d e : Data) → json ≡ Some e → None ≡ option_map fault_of (first_fault rules e (object_of (rule.Body verb))) → json ≡ Some d → has_members verb d ≡ true
unfolding rules decided has_members
spelled-body verb json d e is free given =
    let same : e ≡ d = cc in
    subst (λ x. list_all (is_met x) (members_for verb) ≡ true) same (spelled_by e (members_for verb) (Some []) (plain_free rules e (rule.Body verb) (untold _ free))).0
