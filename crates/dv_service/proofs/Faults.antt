-- What a fault of the first line says.
use Rattle.std.proofs.Common.{◌≡◌, ℕ, List, Result, Ok, Err, IfErr, IsErrOf, refl, sym, ◌∙◌}
use Rattle.std.specs.Str.{chars}
use Rattle.dv_schema.specs.declared.fault.DefFault.{DefFault}
use Rattle.dv_schema.specs.declared.fault.DefFault.TheVariants as fault
use Rattle.dv_schema.specs.declared.fault.DefKind.{DefKind}
use Rattle.dv_schema.specs.declared.fault.DefKind.TheVariants as kind
use Rattle.dv_service.specs.Opening.{kind_word}
use Rattle.dv_service.specs.declared.opening.OpenFault.{OpenFault}
use Rattle.dv_service.specs.declared.opening.OpenFault.TheVariants.{Bad, OutOfMemory}

pub bad_kind : (a b p q : List ℕ) → Bad a p ≡ Bad b q → a ≡ b
bad_kind a b p q is = cc

pub bad_place : (a b p q : List ℕ) → Bad a p ≡ Bad b q → p ≡ q
bad_place a b p q is = cc

pub same_error : {T E : Type 0} (a b : E) → ◌≡◌ {A = Result T E} (Err a) (Err b) → a ≡ b
same_error a b is = cc

pub bad_not_memory : (k : DefKind) (p : List ℕ) (f : DefFault) → f ≡ fault.Bad k p → f ≡ fault.OutOfMemory → ⊥
bad_not_memory k p f is other = cc

pub memory_not_bad : (kind place : List ℕ) → OutOfMemory ≡ Bad kind place → ⊥
memory_not_bad kind place is = cc

pub only_memory : {T : Type 0} (result : Result T OpenFault) (kind place : List ℕ) → IfErr result (λ fault. fault ≡ OutOfMemory) → IsErrOf result (Bad kind place) → ⊥
only_memory (Ok value) kind place memory is = cc
only_memory (Err fault) kind place memory is = memory_not_bad kind place (sym memory ∙ same_error _ _ is)

-- the words have one byte a character
pub word_chars : (k : DefKind) → chars (kind_word k) ≡ kind_word k
unfolding kind_word chars
word_chars kind.NotJson = refl
word_chars kind.UnknownField = refl
word_chars kind.BadForm = refl
word_chars kind.Limit = refl
word_chars kind.NameTaken = refl
word_chars kind.UnknownName = refl
word_chars kind.BadCascade = refl
word_chars kind.OwnershipClash = refl
word_chars kind.SecondParent = refl
word_chars kind.BadRollup = refl
word_chars kind.UnknownStep = refl
word_chars kind.BadDirectory = refl
