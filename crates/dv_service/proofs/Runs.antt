use Rattle.std.proofs.Common.{◌≡◌, ℕ, List, [], ◌∷◌, ◌++◌, Option, Some, None, refl, sym, ◌∙◌, ap, subst, append_assoc}
use Rattle.std.specs.Io.KnownBytes.{append_known}
use Rattle.std.specs.Fmt.{digits}
use Rattle.std.proofs.lemmas.List.{append-nil}
use Rattle.serde_json.proofs.OnLiterals.{serde_json_on_literals}
use Rattle.dv_base.specs.Clock.{ClockState}
use Rattle.dv_base.proofs.KnownBytesLaws.{append_known-nil, append_known-append}
use Rattle.dv_refusal.specs.Refusals.{refusal_members, details_of, number_of}
use Rattle.dv_refusal.specs.declared.refusal.Refusal.TheVariants.{ClockFault, OutOfMemory}
use Rattle.serde_json.specs.Written.{compact_text}
use Rattle.dv_print.specs.Printed.{refused_data}
use Rattle.dv_refusal.specs.declared.refusal.Refusal.{Refusal}
use Rattle.dv_service.specs.Answers.{answer_line, answer_data, printed, refused}
use Rattle.dv_service.specs.Machine.{Run, Step}
use Rattle.dv_service.specs.Organisations.{Organisation}
use Rattle.dv_service.specs.Outcome.{Answered}
use Rattle.dv_service.specs.Outside.{Outside, outside}
use Rattle.dv_service.specs.declared.answer.Answer.{Answer}
use Rattle.dv_service.specs.declared.answer.Answer.TheVariants.{Replied}
use Rattle.dv_service.specs.declared.session.TheConstants.{MEMORY_LINE, CLOCK_LINE}
use Rattle.dv_service.proofs.Rolled.{reply_data-refused}

answer_line-refused : (refusal : Refusal) → answer_line (Replied (refused refusal)) ≡ compact_text (refused_data refusal None) ++ 10 ∷ []
unfolding answer_line answer_data
answer_line-refused refusal = ap (λ d. compact_text d ++ 10 ∷ []) (reply_data-refused refusal)

memory_text : compact_text (refused_data OutOfMemory None) ++ 10 ∷ [] ≡ MEMORY_LINE.now
unfolding refused_data refusal_members details_of number_of serde_json_on_literals digits
memory_text = refl

clock_text : compact_text (refused_data ClockFault None) ++ 10 ∷ [] ≡ CLOCK_LINE.now
unfolding refused_data refusal_members details_of number_of serde_json_on_literals digits
clock_text = refl

pub answer_line-memory : answer_line (Replied (refused OutOfMemory)) ≡ MEMORY_LINE.now
answer_line-memory = answer_line-refused OutOfMemory ∙ memory_text

pub answer_line-clock : answer_line (Replied (refused ClockFault)) ≡ CLOCK_LINE.now
answer_line-clock = answer_line-refused ClockFault ∙ clock_text

-- sink and clock tell the same
pub outside-same : (a b : Outside) → a.written ≡ b.written → a.clock ≡ b.clock → a ≡ b
outside-same a b written clock = ap (λ w. outside w a.clock) written ∙ ap (outside b.written) clock

-- one line more
pub Run-more : (old : Option Organisation) (lines : List (List ℕ)) (clock : ClockState) (answers : List Answer) (middle : Option Organisation) (between : ClockState)
    (line : List ℕ) (answer : Answer) (new : Organisation) (after : ClockState)
    → Run old lines clock answers middle between → Step middle line between answer new after → Run old (lines ++ line ∷ []) clock (answers ++ answer ∷ []) (Some new) after
Run-more old [] clock [] middle between line answer new after ran step =
    (new, after, subst (λ o. Step o line clock answer new after) ran.0 (subst (λ t. Step middle line t answer new after) ran.1 step), (refl, refl))
Run-more old [] clock (r ∷ answers) middle between line answer new after ran step = absurd ran
Run-more old (l ∷ lines) clock [] middle between line answer new after ran step = absurd ran
Run-more old (l ∷ lines) clock (r ∷ answers) middle between line answer new after (next, ticked, first, ran) step =
    (next, ticked, first, Run-more (Some next) lines ticked answers middle between line answer new after ran step)

Run-some : (org : Organisation) (lines : List (List ℕ)) (clock : ClockState) (answers : List Answer) (new : Option Organisation) (after : ClockState)
    → Run (Some org) lines clock answers new after → new ≡ None → ⊥
Run-some org [] clock [] new after ran none = let is = sym ran.0 ∙ none in cc
Run-some org [] clock (r ∷ answers) new after ran none = ran
Run-some org (l ∷ lines) clock [] new after ran none = ran
Run-some org (l ∷ lines) clock (r ∷ answers) new after (next, ticked, first, ran) none = Run-some next lines ticked answers new after ran none

-- a run that began nothing had no line
pub Run-none : (lines : List (List ℕ)) (clock : ClockState) (answers : List Answer) (new : Option Organisation) (after : ClockState)
    → Run None lines clock answers new after → new ≡ None → (lines ≡ []) × (answers ≡ []) × (after ≡ clock)
Run-none [] clock [] new after ran none = (refl, refl, ran.1)
Run-none [] clock (r ∷ answers) new after ran none = absurd ran
Run-none (l ∷ lines) clock [] new after ran none = absurd ran
Run-none (l ∷ lines) clock (r ∷ answers) new after (next, ticked, first, ran) none = absurd (Run-some next lines ticked answers new after ran none)

printed-append : (answers : List Answer) (answer : Answer) → printed (answers ++ answer ∷ []) ≡ printed answers ++ answer_line answer
printed-append [] answer = append-nil (answer_line answer)
printed-append (r ∷ answers) answer = rw (printed-append answers answer) (sym (append_assoc (answer_line r) (printed answers) (answer_line answer)))

-- nothing was answered yet
pub Answered-none : (known : Outside) (org : Option Organisation) → org ≡ None → Answered [] org known known
Answered-none known org none = record { answers = []; ran = (none, refl); wrote = sym (append_known-nil known.written) }

-- one line more was answered
pub Answered-more : (lines : List (List ℕ)) (org : Option Organisation) (before middle now : Outside) (line : List ℕ) (answer : Answer) (new : Organisation)
    → Answered lines org before middle → Step org line middle.clock answer new now.clock → now.written ≡ append_known middle.written (answer_line answer)
    → Answered (lines ++ line ∷ []) (Some new) before now
Answered-more lines org before middle now line answer new answered step wrote = record {
  answers = answered.answers ++ answer ∷ [];
  ran = Run-more None lines before.clock answered.answers org middle.clock line answer new now.clock answered.ran step;
  wrote = wrote ∙ ap (λ m. append_known m (answer_line answer)) answered.wrote ∙ append_known-append before.written (printed answered.answers) (answer_line answer)
      ∙ ap (append_known before.written) (sym (printed-append answered.answers answer));
}

-- where nothing began, there was no line, and nothing was written or asked of the clock
pub Answered-unopened : (lines : List (List ℕ)) (org : Option Organisation) (before now : Outside) → Answered lines org before now → org ≡ None → (lines ≡ []) × (now ≡ before)
Answered-unopened lines org before now answered none =
    let nothing_ran = Run-none lines before.clock answered.answers org now.clock answered.ran none in (
      nothing_ran.0,
      outside-same now before (answered.wrote ∙ ap (λ rs. append_known before.written (printed rs)) nothing_ran.1 ∙ append_known-nil before.written) nothing_ran.2,
    )
