-- How a run's ending follows from what its last turn left.
use Rattle.std.proofs.Common.{◌≡◌, ◌↔◌, ℕ, ◌<◌, ◌≤◌, List, [], length, take, Option, Some, None, IfSome, Err, refl, ◌∙◌, ap, subst, inl, inr}
use Rattle.std.specs.Io.KnownBytes.{prepend_known, IsAtEnd}
use Rattle.dv_base.specs.Source.{IsEmptyExactlyAtEnd}
use Rattle.dv_base.proofs.KnownBytesLaws.{prepend_known-nil}
use Rattle.dv_service.specs.Lines.{ended_lines, lines_of}
use Rattle.dv_service.specs.Organisations.{Organisation}
use Rattle.dv_service.specs.Outcome.{Answered, Ran}
use Rattle.dv_service.specs.Outside.{Outside}
use Rattle.dv_service.specs.Sessions.{Leaves}
use Rattle.dv_service.specs.Statuses.{ending_of}
use Rattle.dv_service.specs.Turns.{Finished}
use Rattle.dv_service.specs.declared.run.TheConstants.{INPUT_LIMIT}
use Rattle.dv_service.specs.declared.status.Ending.{Ending}
use Rattle.dv_service.specs.declared.status.Ending.TheVariants as ending
use Rattle.dv_service.specs.declared.status.Stop.{Stop}
use Rattle.dv_service.specs.declared.status.Stop.TheVariants as stop

-- nothing more was taken
pub took_none : (left middle now : Option (List ℕ)) (taken piece : List ℕ) → left ≡ prepend_known taken middle → middle ≡ prepend_known piece now
    → piece ≡ [] → left ≡ prepend_known taken now
took_none left middle now taken piece first second none =
    first ∙ ap (prepend_known taken) (second ∙ ap (λ p. prepend_known p now) none ∙ prepend_known-nil now)

-- a read of nothing took nothing
pub took_nothing : (n : ℕ) (buffer : List ℕ) (left left_now : Option (List ℕ)) → n ≡ 0 → left ≡ prepend_known (take n buffer) left_now → left ≡ prepend_known [] left_now
took_nothing n buffer left left_now zero took = rw zero at took

-- a read of nothing is at the end
pub at_end-of : (n : ℕ) (buffer : List ℕ) (left left_now : Option (List ℕ)) → n ≡ 0 → 0 < length buffer → left ≡ prepend_known (take n buffer) left_now
    → IsEmptyExactlyAtEnd n buffer left → IsAtEnd left_now
at_end-of n buffer left None zero room took end = tt
at_end-of n buffer left (Some rest) zero room took end =
    let is : left ≡ Some rest = rw zero at took in
    (subst (λ l. IfSome l (λ bytes. (n ≡ 0) ↔ (bytes ≡ []))) is (end room)).0 zero

-- what the lines left at the end of the input, the run has done
pub Ran-finished : (e : Ending) (bytes : List ℕ) (left left_now : Option (List ℕ)) (written written_now : Outside) → left ≡ prepend_known bytes left_now → IsAtEnd left_now
    → length bytes < INPUT_LIMIT → Finished e (lines_of bytes) written written_now → Ran e left left_now written written_now
Ran-finished ending.Done bytes left left_now written written_now took at_end short (org, answered) =
    record { input = bytes; took = took; at_end = at_end; short = short; org = org; answered = answered }
Ran-finished ending.NotOpened bytes left left_now written written_now took at_end short (inl none) =
    record { taken = bytes; took = took; how = inl (record { none = none.0; at_end = at_end; short = short; wrote = none.1 }) }
Ran-finished ending.NotOpened bytes left left_now written written_now took at_end short (inr refused) = record {
  taken = bytes;
  took = took;
  how = inr (record {
    lines = lines_of bytes;
    ended = inr (refl, at_end, short);
    line = refused.line;
    others = refused.others;
    parts = refused.first;
    text = refused.text;
    bad = refused.bad;
    wrote = refused.wrote;
  });
}
Ran-finished ending.ReadFault bytes left left_now written written_now took at_end short none = absurd none
Ran-finished ending.WriteFault bytes left left_now written written_now took at_end short cut =
    record { taken = bytes; took = took; lines = lines_of bytes; ended = inr (refl, at_end, short); cut = cut }
Ran-finished ending.OutOfMemory bytes left left_now written written_now took at_end short untouched = untouched
Ran-finished ending.InputLimit bytes left left_now written written_now took at_end short none = absurd none

-- what a stop within a piece left, the run has done
pub Ran-stopped : (s : Stop) (stood : Type 0) (bytes : List ℕ) (left left_now : Option (List ℕ)) (written written_now : Outside) → left ≡ prepend_known bytes left_now
    → length bytes ≤ INPUT_LIMIT → Leaves {T = Unit {0}} (Err s) stood (ended_lines bytes) written written_now → Ran (ending_of s) left left_now written written_now
Ran-stopped stop.NotOpened stood bytes left left_now written written_now took within refused = record {
  taken = bytes;
  took = took;
  how = inr (record {
    lines = ended_lines bytes;
    ended = inl (refl, within);
    line = refused.line;
    others = refused.others;
    parts = refused.first;
    text = refused.text;
    bad = refused.bad;
    wrote = refused.wrote;
  });
}
Ran-stopped stop.WriteFault stood bytes left left_now written written_now took within cut =
    record { taken = bytes; took = took; lines = ended_lines bytes; ended = inl (refl, within); cut = cut }
Ran-stopped stop.OutOfMemory stood bytes left left_now written written_now took within untouched = untouched

-- what the lines left where an organisation has begun
pub Finished-some : (org : Option Organisation) (some : Organisation) (lines : List (List ℕ)) (before now : Outside) → org ≡ Some some
    → Answered lines org before now → Finished ending.Done lines before now
Finished-some org some lines before now is answered = (some, subst (λ o. Answered lines o before now) is answered)

-- what a stop left at the end of the input
pub Finished-stopped : (s : Stop) (stood : Type 0) (lines : List (List ℕ)) (before now : Outside)
    → Leaves {T = Unit {0}} (Err s) stood lines before now → Finished (ending_of s) lines before now
Finished-stopped stop.NotOpened stood lines before now refused = inr refused
Finished-stopped stop.WriteFault stood lines before now cut = cut
Finished-stopped stop.OutOfMemory stood lines before now untouched = untouched

-- no stop is a fault of the input
pub ending_of-ReadFault : (s : Stop) → ending_of s ≡ ending.ReadFault → ⊥
ending_of-ReadFault stop.NotOpened is = cc
ending_of-ReadFault stop.WriteFault is = cc
ending_of-ReadFault stop.OutOfMemory is = cc

-- and the end of the input is none
pub Finished-ReadFault : (e : Ending) (lines : List (List ℕ)) (before now : Outside) → Finished e lines before now → e ≡ ending.ReadFault → ⊥
Finished-ReadFault e lines before now finished is = rw is at finished
