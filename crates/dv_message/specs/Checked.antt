-- How a message is judged: its checks are asked in their order, and the first that fails is the refusal.
use Rattle.std.specs.Prelude.{◌⊎◌, Bool, true, false, List, [], ◌∷◌, Option, Some, None, Result, Ok, Err, ⊤}
use Rattle.dv_refusal.specs.declared.refusal.Refusal.{Refusal}
use Rattle.dv_message.specs.declared.stop.Stop.{Stop}
use Rattle.dv_message.specs.declared.stop.Stop.TheVariants.{Refused, OutOfMemory}
use Rattle.dv_request.specs.declared.reply.Reply.{Reply}

module _ {Check : Type 0} where
  -- each check of a list passes
  unfoldable pub AllPass : (Check → Option Refusal → Type 0) → List Check → Type 0
  AllPass Says [] = ⊤
  AllPass Says (check ∷ checks) = Says check None × AllPass Says checks

  -- the first check that fails says this
  unfoldable pub FirstSays : (Check → Option Refusal → Type 0) → List Check → Refusal → Type 0
  FirstSays Says [] refusal = ⊥
  FirstSays Says (check ∷ checks) refusal = Says check (Some refusal) ⊎ (Says check None × FirstSays Says checks refusal)

  -- what checks in a row say: that all pass, or what the first says that fails
  abbrev pub FirstOf : (Check → Option Refusal → Type 0) → List Check → Option Refusal → Type 0
  FirstOf Says checks None = AllPass Says checks
  FirstOf Says checks (Some refusal) = FirstSays Says checks refusal

  -- What comes of a message: where a check fails its refusal, and where all pass what the last check says, which is
  -- made with the answer or the change at hand; else what the message does.
  abbrev pub Judged : (Check → Option Refusal → Type 0) → List Check → (Option Refusal → Type 0) → (Reply → Type 0) → Result Reply Refusal → Type 0
  Judged Says checks Last Does (Ok reply) = AllPass Says checks × Last None × Does reply
  Judged Says checks Last Does (Err refusal) = FirstSays Says checks refusal ⊎ (AllPass Says checks × Last (Some refusal))

  -- what a walk over checks answers: they pass; or the first that fails; or memory ran out
  abbrev pub Walked : {T : Type 0} → (Check → Option Refusal → Type 0) → List Check → Result T Stop → Type 0
  Walked Says checks (Ok value) = AllPass Says checks
  Walked Says checks (Err (Refused refusal)) = FirstSays Says checks refusal
  Walked Says checks (Err OutOfMemory) = ⊤

-- what one check answers
abbrev pub Answers : {T : Type 0} → (Option Refusal → Type 0) → Result T Stop → Type 0
Answers Says (Ok value) = Says None
Answers Says (Err (Refused refusal)) = Says (Some refusal)
Answers Says (Err OutOfMemory) = ⊤

-- what one check and then another say: the second is asked where the first passes
abbrev pub Both : (Option Refusal → Type 0) → (Option Refusal → Type 0) → Option Refusal → Type 0
Both First Second None = First None × Second None
Both First Second (Some refusal) = First (Some refusal) ⊎ (First None × Second (Some refusal))

-- a refusal where a test holds
abbrev pub refused_if : Bool → Refusal → Option Refusal
refused_if true refusal = Some refusal
refused_if false refusal = None
