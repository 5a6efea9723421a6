use Rattle.std.proofs.Common.{ℕ, sym, ◌∙◌, ◌++◌, take, ◌+◌}
use Rattle.std.proofs.lemmas.Bool.{false≢true, eqb-true}
use Rattle.httparse.specs.Ascii.{crlf_bytes}
use Rattle.dv_http.specs.Head.{IsHead, AreEmptyLines}
use Rattle.dv_http.proofs.BadLines.{refuted, refutes, bad_lines_at, not_empty_at, no_head_at}
use Rattle.dv_http.proofs.LastFeed.{no_feed_found, last_feed_found, not_without_feed}
use Rattle.dv_http.proofs.lines.has_bad_lines.Goals as goal

pub returns-in_default : goal.returns-in_default
returns-in_default c = (
  λ is. absurd (false≢true is),
  λ bad. absurd (not_without_feed c.args.bytes.now bad.lines bad.unended
      (no_feed_found c.args.bytes.now c.in_default.ensures) bad.split),
)

pub returns-then-not-are_empty_lines : goal.returns-then-not-are_empty_lines
returns-then-not-are_empty_lines c =
    let bytes = c.args.bytes.now in
    let at : ℕ = c.in-Some.last in
    let feed = last_feed_found bytes at c.in-Some.ensures.0 (eqb-true _ _ c.in-Some.ensures.1) in (
      λ is. bad_lines_at bytes at feed c.requires.none
          (λ empty. false≢true (sym c.if-not-are_empty_lines.true ∙ c.are_empty_lines.ensures.1 empty))
          (refuted c.make_a_head.result (IsHead (take (at + 1) bytes ++ crlf_bytes)) c.make_a_head.ensures.1 is),
      λ bad. refutes c.make_a_head.result (IsHead (take (at + 1) bytes ++ crlf_bytes)) c.make_a_head.ensures.0
          (no_head_at bytes at feed bad),
    )

pub returns-else-not-are_empty_lines : goal.returns-else-not-are_empty_lines
returns-else-not-are_empty_lines c =
    let bytes = c.args.bytes.now in
    let at : ℕ = c.in-Some.last in
    let feed = last_feed_found bytes at c.in-Some.ensures.0 (eqb-true _ _ c.in-Some.ensures.1) in (
      λ is. absurd (refuted c.are_empty_lines.result (AreEmptyLines (take (at + 1) bytes)) c.are_empty_lines.ensures.1 is
          (c.are_empty_lines.ensures.0 c.if-not-are_empty_lines.false)),
      λ bad. refutes c.are_empty_lines.result (AreEmptyLines (take (at + 1) bytes)) c.are_empty_lines.ensures.0
          (not_empty_at bytes at feed bad),
    )
