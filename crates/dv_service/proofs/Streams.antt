use Rattle.std.proofs.Common.{◌≡◌, ℕ, ◌+◌, ◌<◌, ◌≤◌, ◌==◌, List, [], ◌∷◌, ◌++◌, filter, length, take, drop, get_or, None, true, false, refl, sym, ◌∙◌, ap, subst, append_assoc}
use Rattle.std.proofs.lemmas.Bool.{ne_eqb}
use Rattle.std.proofs.lemmas.List.{append-nil, take_more, take_all, take-append-drop}
use Rattle.dv_service.specs.Lines.{line_feed, has_content, ended_lines, open_line, lines_of}
use Rattle.dv_service.specs.Outcome.{Answered, CutIn}
use Rattle.dv_service.specs.Outside.{Outside}
use Rattle.dv_service.specs.Sessions.{IsHeld, Stands, IsRefused}
use Rattle.dv_service.specs.declared.session.Session.{Session}
use Rattle.dv_service.proofs.Runs.{Answered-none}
use Rattle.dv_service.proofs.Splitting.{ended_lines-feed, open_line-feed, ended_lines-byte, open_line-byte, ended_lines-append, ended_lines-nil, open_line-nil}

unless_blank : (piece : List ℕ) → has_content piece ≡ false → filter has_content (piece ∷ []) ≡ []
unless_blank piece blank = rw blank refl

one_line : (piece : List ℕ) → has_content piece ≡ true → filter has_content (piece ∷ []) ≡ piece ∷ []
one_line piece content = rw content refl

-- the end of a blank piece ends no line
pub lines_of-blank : (taken : List ℕ) → has_content (open_line taken) ≡ false → lines_of taken ≡ ended_lines taken
lines_of-blank taken blank = rw (unless_blank (open_line taken) blank) (append-nil (ended_lines taken))

-- the end of another piece ends it
pub lines_of-line : (taken : List ℕ) → has_content (open_line taken) ≡ true → lines_of taken ≡ ended_lines taken ++ open_line taken ∷ []
lines_of-line taken content = rw (one_line (open_line taken) content) refl

-- a session begins
pub Stands-none : (session : Session) (known : Outside) → session.org ≡ None → IsHeld session.line [] → Stands session [] known known
Stands-none session known none held = record {
  line = rw open_line-nil held;
  answered = rw ended_lines-nil (Answered-none known session.org none);
}

-- a line feed
pub Stands-feed : (session : Session) (taken : List ℕ) (b : ℕ) (before now : Outside) → b ≡ line_feed → IsHeld session.line []
    → Answered (lines_of taken) session.org before now → Stands session (taken ++ b ∷ []) before now
Stands-feed session taken b before now feed held answered = rw feed (record {
  line = rw (open_line-feed taken) held;
  answered = rw (ended_lines-feed taken) answered;
})

-- any other byte
pub Stands-byte : (session : Session) (taken : List ℕ) (b : ℕ) (before now : Outside) → (b ≡ line_feed → ⊥) → IsHeld session.line (open_line taken ++ b ∷ [])
    → Answered (ended_lines taken) session.org before now → Stands session (taken ++ b ∷ []) before now
Stands-byte session taken b before now other held answered =
    let is_other : (b == line_feed) ≡ false = ne_eqb b line_feed other in
    record { line = rw (open_line-byte taken b is_other) held; answered = rw (ended_lines-byte taken b is_other) answered }

-- a cut in the line that a line feed ends
pub CutIn-feed : (taken : List ℕ) (b : ℕ) (before now : Outside) → b ≡ line_feed → CutIn (lines_of taken) before now → CutIn (ended_lines (taken ++ b ∷ [])) before now
CutIn-feed taken b before now feed cut = rw (feed, ended_lines-feed taken) cut

next_byte : (taken piece : List ℕ) (i : ℕ) → i < length piece → (taken ++ take i piece) ++ get_or piece i 0 ∷ [] ≡ taken ++ take (i + 1) piece
next_byte taken piece i h = rw (append_assoc, ← take_more piece i 0 h) refl

-- a byte more of a piece
pub Stands-more : (session : Session) (taken piece : List ℕ) (i : ℕ) (before now : Outside) → i < length piece
    → Stands session ((taken ++ take i piece) ++ get_or piece i 0 ∷ []) before now → Stands session (taken ++ take (i + 1) piece) before now
Stands-more session taken piece i before now h stands = subst (λ x. Stands session x before now) (next_byte taken piece i h) stands

-- all bytes of a piece
pub Stands-whole : (session : Session) (taken piece : List ℕ) (i : ℕ) (before now : Outside) → length piece ≤ i
    → Stands session (taken ++ take i piece) before now → Stands session (taken ++ piece) before now
Stands-whole session taken piece i before now h stands = subst (λ x. Stands session (taken ++ x) before now) (take_all i piece h) stands

rest_of : (taken piece : List ℕ) (i : ℕ) → i < length piece → ((taken ++ take i piece) ++ get_or piece i 0 ∷ []) ++ drop (i + 1) piece ≡ taken ++ piece
rest_of taken piece i h = rw (next_byte taken piece i h, append_assoc, take-append-drop (i + 1) piece) refl

-- a refusal within a piece stands for the piece
pub IsRefused-within : (taken piece : List ℕ) (i : ℕ) (before now : Outside) → i < length piece
    → IsRefused (ended_lines ((taken ++ take i piece) ++ get_or piece i 0 ∷ [])) before now → IsRefused (ended_lines (taken ++ piece)) before now
IsRefused-within taken piece i before now h refused =
    let grown = ended_lines-append ((taken ++ take i piece) ++ get_or piece i 0 ∷ []) (drop (i + 1) piece) in
    record {
      line = refused.line;
      others = refused.others ++ grown.0;
      first = sym (ap ended_lines (rest_of taken piece i h)) ∙ grown.1 ∙ ap (λ lines. lines ++ grown.0) refused.first;
      text = refused.text;
      bad = refused.bad;
      wrote = refused.wrote;
    }

-- a cut stays one when more lines end
pub CutIn-append : (lines more : List (List ℕ)) (before now : Outside) → CutIn lines before now → CutIn (lines ++ more) before now
CutIn-append lines more before now cut = record {
  served = cut.served;
  line = cut.line;
  others = cut.others ++ more;
  parts = rw cut.parts (append_assoc cut.served (cut.line ∷ cut.others) more);
  org = cut.org;
  middle = cut.middle;
  answered = cut.answered;
  text = cut.text;
  writes = cut.writes;
  cut = cut.cut;
}

-- a cut within a piece stands for the piece
pub CutIn-within : (taken piece : List ℕ) (i : ℕ) (before now : Outside) → i < length piece
    → CutIn (ended_lines ((taken ++ take i piece) ++ get_or piece i 0 ∷ [])) before now → CutIn (ended_lines (taken ++ piece)) before now
CutIn-within taken piece i before now h cut =
    let grown = ended_lines-append ((taken ++ take i piece) ++ get_or piece i 0 ∷ []) (drop (i + 1) piece) in
    let more : CutIn (ended_lines (((taken ++ take i piece) ++ get_or piece i 0 ∷ []) ++ drop (i + 1) piece)) before now
    = rw grown.1 (CutIn-append _ grown.0 before now cut) in
    subst (λ x. CutIn (ended_lines x) before now) (rest_of taken piece i h) more
