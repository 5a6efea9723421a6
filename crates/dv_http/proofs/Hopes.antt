-- What stays so where bytes are cut or go on: the head at their front, the message, and that they are hopeless.
use Rattle.std.proofs.Common.{◌≡◌, ◌≢◌, ℕ, ◌+◌, ◌-◌, ◌≤◌, List, [], ◌∷◌, ◌++◌, length, take, drop, sym, ap, ◌∙◌, subst, arith, append_assoc, append-nil, inl, inr, ◌⊎◌}
use Rattle.std.proofs.lemmas.Bool.{cases_lt, cases_eq}
use Rattle.std.proofs.lemmas.List.{length-append, take-append-drop, length-take}
use Rattle.std.proofs.lemmas.List.Elements.{All-nil, All-cons}
use Rattle.std.proofs.Math.Seq.{take-append-add, take-append_seam}
use Rattle.httparse.specs.Ascii.{line_feed, crlf_bytes}
use Rattle.httparse.specs.Grammar.{RequestHead, print_request, print_end, print_blank}
use Rattle.httparse.proofs.GrammarLemmas.{request_unique, ReadsRequest-append}
use Rattle.dv_http.specs.declared.message.HttpMessage.{HttpMessage}
use Rattle.dv_http.specs.Head.{BeginsWithHead, HasNoHead, AreEmptyLines, head_len, headers_of}
use Rattle.dv_http.specs.Headers.{body_len}
use Rattle.dv_http.specs.Message.{BeginsWithMessage}
use Rattle.dv_http.specs.Hopeless.{HasBadLines, IsHopeless}
use Rattle.dv_http.proofs.Cuts.{HasNoFeed, in_empty_lines, after_line, after_head, head_cut, lines_cut, blank_lines}

-- bytes begin with one head at most
pub head_unique : (bytes : List ℕ) (h k : RequestHead) (a b : List ℕ) → BeginsWithHead bytes h a → BeginsWithHead bytes k b
    → (h ≡ k) × (a ≡ b)
head_unique bytes h k a b x y = request_unique bytes h k a b x.reads y.reads

-- the head is there whatever follows
pub BeginsWithHead-append : (bytes : List ℕ) (head : RequestHead) (rest more : List ℕ) → BeginsWithHead bytes head rest
    → BeginsWithHead (bytes ++ more) head (rest ++ more)
BeginsWithHead-append bytes head rest more begins =
    record { reads = ReadsRequest-append bytes head rest more begins.reads; few = begins.few }

-- the head is there wherever the bytes are cut behind it
pub BeginsWithHead-take : (bytes : List ℕ) (head : RequestHead) (rest : List ℕ) (cut : ℕ) → head_len head ≤ cut
    → BeginsWithHead bytes head rest → BeginsWithHead (take cut bytes) head (take (cut - head_len head) rest)
BeginsWithHead-take bytes head rest cut fits begins =
    let n : cut ≡ head_len head + (cut - head_len head) = omega arith in
    record {
      reads = (
        begins.reads.0,
        ap (λ (b : List ℕ). take cut b) begins.reads.1
            ∙ ap (λ (k : ℕ). take k (print_request head ++ rest)) n
            ∙ take-append-add (print_request head) rest (cut - head_len head),
      );
      few = begins.few;
    }

-- bytes of which a front begins with a head begin with it
pub BeginsWithHead-whole : (bytes : List ℕ) (head : RequestHead) (rest : List ℕ) (cut : ℕ)
    → BeginsWithHead (take cut bytes) head rest → BeginsWithHead bytes head (rest ++ drop cut bytes)
BeginsWithHead-whole bytes head rest cut begins =
    subst (λ (b : List ℕ). BeginsWithHead b head (rest ++ drop cut bytes)) (take-append-drop cut bytes)
    (BeginsWithHead-append (take cut bytes) head rest (drop cut bytes) begins)

-- no head is longer than the bytes that begin with it
pub head_len-le : (bytes : List ℕ) (head : RequestHead) (rest : List ℕ) → BeginsWithHead bytes head rest
    → head_len head ≤ length bytes
head_len-le bytes head rest begins =
    omega (arith, ap (λ (b : List ℕ). length b) begins.reads.1, length-append (print_request head) rest)

-- a head's own lines are never bad ones
lines_of_a_head : (bytes : List ℕ) (bad : HasBadLines bytes) (more : List ℕ) (head : RequestHead) (rest : List ℕ)
    → BeginsWithHead (bad.lines ++ line_feed ∷ more) head rest → ⊥
lines_of_a_head bytes bad more head rest begins =
    elim (head_cut head rest bad.lines more begins) [
      | in_empty_lines empty ↦ bad.some empty
      | after_line is ↦ bad.bad is
      | after_head past e ↦ bad.none head (past ++ bad.unended) (record {
        reads = (
          begins.reads.0,
          bad.split ∙ sym (append_assoc bad.lines (line_feed ∷ []) bad.unended)
              ∙ ap (λ (t : List ℕ). t ++ bad.unended) e ∙ append_assoc (print_request head) past bad.unended,
        );
        few = begins.few;
      })
    ]

-- the bytes before and after the last line feed, if there is one
last_feed : (bytes : List ℕ) → HasNoFeed bytes
    ⊎ ((front : List ℕ) × (tail : List ℕ) × (bytes ≡ front ++ line_feed ∷ tail) × HasNoFeed tail)
last_feed [] = inl (All-nil (λ byte. byte ≢ line_feed))
last_feed (b ∷ bytes) =
    elim (last_feed bytes) [
      | inl none ↦ elim (cases_eq b line_feed) [
        | inl is ↦ inr ([], bytes, cc is, none)
        | inr not_it ↦ inl (All-cons (λ byte. byte ≢ line_feed) b bytes not_it none)
      ]
      | inr at ↦ inr (b ∷ at.0, at.1, cc at.2, at.3)
    ]

pub message_not_hopeless : (bytes : List ℕ) (message : HttpMessage) (used cut : ℕ)
    → BeginsWithMessage bytes message used → ¬ (IsHopeless (take cut bytes))
message_not_hopeless bytes message used cut is (inl bad) =
    let same = head_unique bytes bad.head is.head _ _
    (BeginsWithHead-whole bytes bad.head bad.after cut bad.begins) is.begins in
    let two = ap (λ (h : RequestHead). body_len (headers_of h)) same.0 in
    absurd (cc (bad.refused, two, is.announced))
message_not_hopeless bytes message used cut is (inr (inl long)) =
    let fits : head_len is.head ≤ cut = omega (arith, is.short, long.many, length-take cut bytes) in
    let longer = long.longer is.head _ (BeginsWithHead-take bytes is.head is.after cut fits is.begins) in
    omega (arith, longer, is.short)
message_not_hopeless bytes message used cut is (inr (inr bad)) =
    lines_of_a_head (take cut bytes) bad (bad.unended ++ drop cut bytes) is.head is.after
    (subst (λ (b : List ℕ). BeginsWithHead b is.head is.after)
    (sym (take-append-drop cut bytes) ∙ ap (λ (t : List ℕ). t ++ drop cut bytes) bad.split
    ∙ append_assoc bad.lines (line_feed ∷ bad.unended) (drop cut bytes))
    is.begins)

-- a line feed is no empty text
feed_there : (past more : List ℕ) → past ++ line_feed ∷ more ≡ [] → ⊥
feed_there [] more e = absurd (cc e)
feed_there (b ∷ past) more e = absurd (cc e)

-- lines after some that aren't all empty aren't all empty
more_lines : (lines later : List ℕ) → AreEmptyLines ((lines ++ line_feed ∷ later) ++ line_feed ∷ [])
    → AreEmptyLines (lines ++ line_feed ∷ [])
more_lines lines later empty =
    elim (lines_cut print_end empty.0 lines (later ++ line_feed ∷ []) [] (blank_lines empty.0)
    (sym (append_assoc lines (line_feed ∷ later) (line_feed ∷ [])) ∙ empty.1 ∙ sym (append-nil (print_blank empty.0)))) [
      | inl ends ↦ (ends.done, ends.ended)
      | inr past ↦ absurd (feed_there past.0 (later ++ line_feed ∷ []) past.2)
    ]

-- more lines after bad ones are bad ones
more_bad_lines : (bytes more : List ℕ) → HasBadLines bytes → HasBadLines (bytes ++ more)
more_bad_lines bytes more bad =
    let joined : bytes ++ more ≡ bad.lines ++ line_feed ∷ (bad.unended ++ more) =
    ap (λ (t : List ℕ). t ++ more) bad.split ∙ append_assoc bad.lines (line_feed ∷ bad.unended) more in
    let none : HasNoHead (bytes ++ more) = λ head rest begins. lines_of_a_head bytes bad (bad.unended ++ more) head rest
    (subst (λ (b : List ℕ). BeginsWithHead b head rest) joined begins) in
    elim (last_feed (bad.unended ++ more)) [
      | inl no_more ↦ record {
        none = none;
        lines = bad.lines;
        unended = bad.unended ++ more;
        split = joined;
        last = no_more;
        some = bad.some;
        bad = bad.bad;
      }
      | inr at ↦ record {
        none = none;
        lines = bad.lines ++ line_feed ∷ at.0;
        unended = at.1;
        split = joined ∙ ap (λ (t : List ℕ). bad.lines ++ line_feed ∷ t) at.2
            ∙ sym (append_assoc bad.lines (line_feed ∷ at.0) (line_feed ∷ at.1));
        last = at.3;
        some = λ empty. bad.some (more_lines bad.lines at.0 empty);
        bad = λ is. lines_of_a_head bytes bad (at.0 ++ line_feed ∷ crlf_bytes) is.0 []
            (subst (λ (b : List ℕ). BeginsWithHead b is.0 []) (append_assoc bad.lines (line_feed ∷ at.0) (line_feed ∷ crlf_bytes))
            is.1);
      }
    ]

pub hopeless-append : (bytes more : List ℕ) → IsHopeless bytes → IsHopeless (bytes ++ more)
hopeless-append bytes more (inl bad) = inl (record {
  head = bad.head;
  after = bad.after ++ more;
  begins = BeginsWithHead-append bytes bad.head bad.after more bad.begins;
  refused = bad.refused;
})
hopeless-append bytes more (inr (inl long)) = inr (inl (record {
  many = omega (arith, long.many, length-append bytes more);
  longer = λ head after begins. elim (cases_lt 16384 (head_len head)) [
    | inl longer ↦ longer
    | inr fits ↦
        let rest : List ℕ = take (length bytes - head_len head) after in
        let front : BeginsWithHead bytes head rest =
        subst (λ (b : List ℕ). BeginsWithHead b head rest) (take-append_seam bytes more)
        (BeginsWithHead-take (bytes ++ more) head after (length bytes) (omega (arith, fits, long.many)) begins) in
        long.longer head rest front
  ];
}))
hopeless-append bytes more (inr (inr bad)) = inr (inr (more_bad_lines bytes more bad))
