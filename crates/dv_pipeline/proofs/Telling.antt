-- A fault of a query that is told is refused.
use Rattle.std.proofs.Common.{◌≡◌, ℕ, List, Option, Some, None, option_map, sym, ap, ◌∙◌}
use Rattle.dv_refusal.specs.declared.refusal.Refusal.{Refusal}
use Rattle.dv_refusal.specs.declared.refusal.Refusal.TheVariants as answer
use Rattle.dv_query_check.specs.declared.fault.QueryFault.{QueryFault}
use Rattle.dv_query_check.specs.declared.fault.QueryFault.TheVariants.{BadQuery, OutOfMemory}
use Rattle.dv_query_check.specs.declared.fault.QueryKind.{QueryKind}
use Rattle.dv_query_check.specs.Faults.{kind_word}
use Rattle.std.specs.Prelude.{chars}

abbrev refused : QueryFault → Option Refusal
refused OutOfMemory = None
refused (BadQuery part kind) = Some (answer.BadQuery (chars (kind_word kind)) part)

abbrev refused_if_told : Option QueryFault → Option Refusal
refused_if_told None = None
refused_if_told (Some fault) = refused fault

-- no fault is no refusal
pub none_is_fine : {A : Type 0} (refuse : A → Refusal) (fault : Option A) → fault ≡ None → None ≡ option_map refuse fault
none_is_fine refuse fault e = ap (option_map refuse) (sym e)

-- a fault that is told in one way is refused in the other
pub told_is_refused : {A : Type 0} (tell : A → QueryFault) (refuse : A → Refusal) → ((x : A) → refused (tell x) ≡ Some (refuse x)) → (fault : Option A) (part : List ℕ) (kind : QueryKind) → option_map tell fault ≡ Some (BadQuery part kind)
    → Some (answer.BadQuery (chars (kind_word kind)) part) ≡ option_map refuse fault
told_is_refused tell refuse alike None part kind e = absurd (cc)
told_is_refused tell refuse alike (Some x) part kind e = sym (ap refused_if_told e) ∙ alike x
