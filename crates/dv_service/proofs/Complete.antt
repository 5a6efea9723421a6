use Rattle.std.proofs.Common.{◌≡◌, ◌⊎◌, ℕ, ◌<◌, ◌≤◌, List, [], ◌∷◌, ◌++◌, filter, length, length-append, true, Option, Some, None, IfSome, refl, sym, inl, inr, ap, ◌∙◌, arith}
use Rattle.std.specs.Io.KnownBytes.{prepend_known, IsAtEnd}
use Rattle.std.proofs.lemmas.List.{append-nil}
use Rattle.dv_base.specs.Faults.{Rose}
use Rattle.dv_service.specs.Lines.{has_content, open_line, lines_of}
use Rattle.dv_base.specs.Clock.{ClockState}
use Rattle.dv_service.specs.Machine.{Run}
use Rattle.dv_service.specs.Opening.{Begins}
use Rattle.dv_service.specs.Organisations.{Organisation}
use Rattle.dv_service.specs.Outside.{Outside}
use Rattle.dv_service.specs.Statuses.{is_status, code_of}
use Rattle.dv_service.specs.Outcome.{HaveEnded, EndsUnopened, RefusesFirst, NotOpened, RanToEnd, IsOpened, StoppedAtLimit, Ran}
use Rattle.dv_service.specs.Sessions.{TellsFault}
use Rattle.dv_service.specs.declared.run.TheConstants.{INPUT_LIMIT}
use Rattle.dv_service.specs.declared.answer.Answer.{Answer}
use Rattle.dv_service.specs.declared.status.Ending.{Ending}
use Rattle.dv_service.specs.declared.status.Ending.TheVariants as ending
use Rattle.dv_service.proofs.Beginnings.{Begins-or-declines}
use Rattle.dv_service.proofs.Splitting.{ended_lines-append}

same_bytes : (a b : List ℕ) → Some a ≡ Some b → a ≡ b
same_bytes a b is = cc

no_bytes : (a : List ℕ) → None ≡ Some a → ⊥
no_bytes a is = cc

no_org : (a : Organisation) → Some a ≡ None → ⊥
no_org a is = cc

-- no more bytes were taken than there were
within : (bytes : List ℕ) (left_now : Option (List ℕ)) (taken : List ℕ) → Some bytes ≡ prepend_known taken left_now → length taken ≤ length bytes
within bytes None taken took = absurd (no_bytes bytes (sym took))
within bytes (Some rest) taken took = rw (same_bytes bytes (taken ++ rest) took, length-append) (omega arith)

-- what was taken up to the end is the input
whole_input : (bytes : List ℕ) (left_now : Option (List ℕ)) (taken : List ℕ) → Some bytes ≡ prepend_known taken left_now → IsAtEnd left_now → bytes ≡ taken
whole_input bytes None taken took at_end = absurd (no_bytes bytes (sym took))
whole_input bytes (Some rest) taken took at_end = same_bytes bytes (taken ++ rest) took ∙ ap (λ r. taken ++ r) at_end ∙ append-nil taken

-- the first line that ended is the input's first line
first_line : (bytes : List ℕ) (left_now : Option (List ℕ)) (taken : List ℕ) (lines others : List (List ℕ)) (line : List ℕ) → Some bytes ≡ prepend_known taken left_now
    → HaveEnded lines taken left_now → lines ≡ line ∷ others → (more : List (List ℕ)) × (lines_of bytes ≡ line ∷ more)
first_line bytes None taken lines others line took ended parts = absurd (no_bytes bytes (sym took))
first_line bytes (Some rest) taken lines others line took (inl ended) parts =
    let later = ended_lines-append taken rest in
    let tail = filter has_content (open_line (taken ++ rest) ∷ []) in (
      (others ++ later.0) ++ tail,
      ap lines_of (same_bytes bytes (taken ++ rest) took) ∙ rw (later.1, ← ended.0, parts) refl,
    )
first_line bytes (Some rest) taken lines others line took (inr ended) parts =
    (others, ap lines_of (whole_input bytes (Some rest) taken took ended.1) ∙ sym ended.0 ∙ parts)

opened_first : (lines more : List (List ℕ)) (line : List ℕ) → lines ≡ line ∷ more → IsOpened lines → (org : Organisation) × Begins line org
opened_first lines more line parts is_opened = rw parts at is_opened

opened_none : (lines : List (List ℕ)) → lines ≡ [] → IsOpened lines → ⊥
opened_none lines none is_opened = rw none at is_opened

-- an input that opens an organisation doesn't leave it unopened
opened : (bytes : List ℕ) (left_now : Option (List ℕ)) (written written_now : Outside) → NotOpened (Some bytes) left_now written written_now → IsOpened (lines_of bytes) → ⊥
opened bytes left_now written written_now unopened is_opened = by_how unopened.how
  where
    by_how : EndsUnopened unopened.taken left_now written written_now ⊎ RefusesFirst unopened.taken left_now written written_now → ⊥
    by_how (inl ends) = opened_none (lines_of bytes) (ap lines_of (whole_input bytes left_now unopened.taken unopened.took ends.at_end) ∙ ends.none) is_opened
    by_how (inr refuses) =
        let first = first_line bytes left_now unopened.taken refuses.lines refuses.others refuses.line unopened.took refuses.ended refuses.parts in
        let begun = opened_first (lines_of bytes) first.0 refuses.line first.1 is_opened in
        Begins-or-declines refuses.line begun.0 refuses.bad.0 refuses.bad.1 begun.1 refuses.bad.2

-- lines that were answered up to an organisation opened it
Run-opened : (lines : List (List ℕ)) (clock : ClockState) (answers : List Answer) (org : Organisation) (after : ClockState) → Run None lines clock answers (Some org) after → IsOpened lines
Run-opened [] clock [] org after ran = no_org org ran.0
Run-opened [] clock (answer ∷ answers) org after ran = ran
Run-opened (line ∷ lines) clock [] org after ran = absurd ran
Run-opened (line ∷ lines) clock (answer ∷ answers) org after (next, ticked, first, ran) = (next, first.0)

finished_opened : (bytes : List ℕ) (left_now : Option (List ℕ)) (written written_now : Outside) → RanToEnd (Some bytes) left_now written written_now → IsOpened (lines_of bytes)
finished_opened bytes left_now written written_now ran =
    rw (whole_input bytes left_now ran.input ran.took ran.at_end) (Run-opened (lines_of ran.input) _ ran.answered.answers ran.org _ ran.answered.ran)

pub is_status-code_of : (e : Ending) → is_status (code_of e) ≡ true
unfolding is_status code_of
is_status-code_of ending.Done = refl
is_status-code_of ending.NotOpened = refl
is_status-code_of ending.ReadFault = refl
is_status-code_of ending.WriteFault = refl
is_status-code_of ending.OutOfMemory = refl
is_status-code_of ending.InputLimit = refl

module _ (left_now : Option (List ℕ)) (written written_now : Outside) (reads reads_now writes writes_now : ℕ) where
  past_limit : (bytes : List ℕ) → StoppedAtLimit (Some bytes) left_now written written_now → length bytes < INPUT_LIMIT → ⊥
  past_limit bytes limit short = let fits = within bytes left_now limit.0.taken limit.0.took in omega (arith, fits, limit.1, short)

  complete_at : (e : Ending) (bytes : List ℕ) → Ran e (Some bytes) left_now written written_now
      → TellsFault (e ≡ ending.ReadFault) reads reads_now → TellsFault (e ≡ ending.WriteFault) writes writes_now
      → ¬ Rose reads reads_now → ¬ Rose writes writes_now → length bytes < INPUT_LIMIT → IsOpened (lines_of bytes) → (code_of e ≡ 0) ⊎ (code_of e ≡ 9)
  unfolding code_of
  complete_at ending.Done bytes ran read write no_read no_write short is_opened = inl refl
  complete_at ending.NotOpened bytes ran read write no_read no_write short is_opened = absurd (opened bytes left_now written written_now ran is_opened)
  complete_at ending.ReadFault bytes ran read write no_read no_write short is_opened = absurd (no_read (read.rose refl))
  complete_at ending.WriteFault bytes ran read write no_read no_write short is_opened = absurd (no_write (write.rose refl))
  complete_at ending.OutOfMemory bytes ran read write no_read no_write short is_opened = inr refl
  complete_at ending.InputLimit bytes ran read write no_read no_write short is_opened = absurd (past_limit bytes ran short)

  -- a run that meets no fault and no limit ends well, or out of memory
  pub complete : (e : Ending) (left : Option (List ℕ)) → Ran e left left_now written written_now
      → TellsFault (e ≡ ending.ReadFault) reads reads_now → TellsFault (e ≡ ending.WriteFault) writes writes_now
      → ¬ Rose reads reads_now → ¬ Rose writes writes_now
      → IfSome left (λ bytes. length bytes < INPUT_LIMIT → IsOpened (lines_of bytes) → (code_of e ≡ 0) ⊎ (code_of e ≡ 9))
  complete e None ran read write no_read no_write = tt
  complete e (Some bytes) ran read write no_read no_write = λ short is_opened. complete_at e bytes ran read write no_read no_write short is_opened

  refuses_at : (e : Ending) (bytes : List ℕ) → Ran e (Some bytes) left_now written written_now
      → TellsFault (e ≡ ending.ReadFault) reads reads_now → TellsFault (e ≡ ending.WriteFault) writes writes_now
      → ¬ Rose reads reads_now → ¬ Rose writes writes_now → length bytes < INPUT_LIMIT → ¬ (IsOpened (lines_of bytes)) → (code_of e ≡ 3) ⊎ (code_of e ≡ 9)
  unfolding code_of
  refuses_at ending.Done bytes ran read write no_read no_write short closed = absurd (closed (finished_opened bytes left_now written written_now ran))
  refuses_at ending.NotOpened bytes ran read write no_read no_write short closed = inl refl
  refuses_at ending.ReadFault bytes ran read write no_read no_write short closed = absurd (no_read (read.rose refl))
  refuses_at ending.WriteFault bytes ran read write no_read no_write short closed = absurd (no_write (write.rose refl))
  refuses_at ending.OutOfMemory bytes ran read write no_read no_write short closed = inr refl
  refuses_at ending.InputLimit bytes ran read write no_read no_write short closed = absurd (past_limit bytes ran short)

  -- and one whose input opens nothing is refused, or ends out of memory
  pub refuses : (e : Ending) (left : Option (List ℕ)) → Ran e left left_now written written_now
      → TellsFault (e ≡ ending.ReadFault) reads reads_now → TellsFault (e ≡ ending.WriteFault) writes writes_now
      → ¬ Rose reads reads_now → ¬ Rose writes writes_now
      → IfSome left (λ bytes. length bytes < INPUT_LIMIT → ¬ (IsOpened (lines_of bytes)) → (code_of e ≡ 3) ⊎ (code_of e ≡ 9))
  refuses e None ran read write no_read no_write = tt
  refuses e (Some bytes) ran read write no_read no_write = λ short closed. refuses_at e bytes ran read write no_read no_write short closed
