-- How bytes are read, case by case.
use Rattle.std.proofs.Common.{◌≡◌, ℕ, List, [], Option, Some, None, option_map, Result, Ok, Err, refl, ap, sym, ◌∙◌, true}
use Rattle.std.specs.Prelude.{IsErrOf}
use Rattle.serde_json.specs.Data.{Data}
use Rattle.dv_form.specs.LocalFaults.{fault_of}
use Rattle.dv_form.specs.Walk.{Violation}
use Rattle.dv_form.specs.declared.fault.Fault.{Fault}
use Rattle.dv_request.specs.declared.request.Request.{Request}
use Rattle.dv_wire.specs.declared.grammar.Rule.{Rule}
use Rattle.dv_wire.specs.declared.wire.WireFault.{WireFault}
use Rattle.dv_wire.specs.declared.wire.WireFault.TheVariants.{Malformed, OutOfMemory}
use Rattle.dv_wire.specs.declared.verb.Verb.{Verb}
use Rattle.dv_wire.specs.Reads.{Reading, spelled, faulty, judged, fault_in, value_reads, message_reads, body_reads}
use Rattle.dv_wire.specs.Spelled.{has_members}
use Rattle.dv_wire.specs.Verbs.{verb_of}

abbrev place_of : {A : Type 0} → Result A WireFault → List ℕ
place_of (Ok read) = []
place_of (Err (Malformed place)) = place
place_of (Err OutOfMemory) = []

-- two faults of one place
pub told : {A : Type 0} (given place : List ℕ) (reading : Reading A) → reading ≡ faulty given → IsErrOf {T = A} {E = WireFault} (Err (Malformed given)) (Malformed place) → reading ≡ faulty place
told given place reading e is = e ∙ ap (λ r. faulty (place_of r)) is

judged_none : {A : Type 0} (x : A) (o : Option Violation) → None ≡ option_map fault_of o → judged x o ≡ spelled x
unfolding judged
judged_none x None is = refl
judged_none x (Some found) is = absurd (cc)

abbrev given_by : {A : Type 0} → Option Fault → Reading A
given_by None = faulty []
given_by (Some fault) = faulty fault.place

judged_some : {A : Type 0} (x : A) (o : Option Violation) (fault : Fault) → Some fault ≡ option_map fault_of o → judged x o ≡ faulty fault.place
unfolding judged
judged_some x None fault is = absurd (cc)
judged_some x (Some found) fault is = ap given_by (sym is)

-- what isn't a value
pub reads-none : {A : Type 0} (rule : Rule) (read : Data → A) (json : Option Data) → json ≡ None → value_reads rule read json ≡ faulty []
unfolding value_reads
reads-none rule read json is = ap (value_reads rule read) is

-- a value with a fault
pub reads-fault : {A : Type 0} (rule : Rule) (read : Data → A) (json : Option Data) (d : Data) (fault : Fault) → json ≡ Some d → Some fault ≡ option_map fault_of (fault_in rule d)
    → value_reads rule read json ≡ faulty fault.place
unfolding value_reads
reads-fault rule read json d fault is e = ap (value_reads rule read) is ∙ judged_some (read d) (fault_in rule d) fault e

-- a value without a fault
pub reads-spelled : {A : Type 0} (rule : Rule) (read : Data → A) (json : Option Data) (d : Data) (x : A) → json ≡ Some d → None ≡ option_map fault_of (fault_in rule d) → x ≡ read d
    → value_reads rule read json ≡ spelled x
unfolding value_reads
reads-spelled rule read json d x is e f = ap (value_reads rule read) is ∙ judged_none (read d) (fault_in rule d) e ∙ ap spelled (sym f)

-- two equal pairs
pub pair_is : {A B : Type 0} (a c : A) (b d : B) → a ≡ c → b ≡ d → ◌≡◌ {A = A × B} (a, b) (c, d)
pair_is a c b d e f = rw (e, f) refl

-- a body is read by the message of its word
pub of_word : (word bytes : List ℕ) (verb : Verb) (reading : Reading Request) → Some verb ≡ verb_of word → message_reads verb bytes ≡ reading → body_reads word bytes ≡ Some reading
unfolding body_reads
of_word word bytes verb reading is e = ap (option_map (λ v. message_reads v bytes)) (sym is) ∙ ap Some e

-- and has the members of that message
pub members_of_word : (word : List ℕ) (verb : Verb) (d : Data) → Some verb ≡ verb_of word → has_members verb d ≡ true → option_map (λ v. has_members v d) (verb_of word) ≡ Some true
members_of_word word verb d is e = ap (option_map (λ v. has_members v d)) (sym is) ∙ ap Some e
