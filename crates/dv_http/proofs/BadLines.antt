-- Bad lines, by the place of the last line feed.
use Rattle.std.proofs.Common.{◌≡◌, ℕ, ◌+◌, Bool, true, false, not, List, [], ◌∷◌, ◌++◌, take, drop, refl, sym, ap, ◌∙◌, subst, append_assoc}
use Rattle.httparse.specs.Ascii.{line_feed, crlf_bytes}
use Rattle.dv_http.specs.Head.{IsHead, HasNoHead, AreEmptyLines}
use Rattle.dv_http.specs.Hopeless.{HasBadLines}
use Rattle.dv_http.proofs.LastFeed.{HasLastFeed, last_feed_unique}

-- a test that fails where the fact doesn't hold
pub refuted : (b : Bool) (P : Type 0) → (P → b ≡ true) → not b ≡ true → P → ⊥
refuted true P holds is p = absurd (cc is)
refuted false P holds is p = absurd (cc (holds p))

pub refutes : (b : Bool) (P : Type 0) → (b ≡ true → P) → ¬ P → not b ≡ true
refutes true P holds no_p = absurd (no_p (holds refl))
refutes false P holds no_p = refl

module _ (bytes : List ℕ) (at : ℕ) (feed : HasLastFeed bytes at) where
  -- the lines, with an empty line after them
  with_end : take (at + 1) bytes ++ crlf_bytes ≡ take at bytes ++ line_feed ∷ crlf_bytes
  with_end =
      ap (λ (t : List ℕ). t ++ crlf_bytes) feed.ended ∙ append_assoc (take at bytes) (line_feed ∷ []) crlf_bytes

  pub bad_lines_at : HasNoHead bytes → ¬ (AreEmptyLines (take (at + 1) bytes))
      → ¬ (IsHead (take (at + 1) bytes ++ crlf_bytes)) → HasBadLines bytes
  bad_lines_at none some bad = record {
    none = none;
    lines = take at bytes;
    unended = drop (at + 1) bytes;
    split = feed.split;
    last = feed.last;
    some = λ empty. some (subst (λ (t : List ℕ). AreEmptyLines t) (sym feed.ended) empty);
    bad = λ is. bad (subst (λ (t : List ℕ). IsHead t) (sym with_end) is);
  }

  -- those of bad lines are the lines up to there
  same_lines : (bad : HasBadLines bytes) → bad.lines ≡ take at bytes
  same_lines bad =
      last_feed_unique bad.lines (take at bytes) bad.unended (drop (at + 1) bytes) bad.last feed.last
      (sym bad.split ∙ feed.split)

  pub not_empty_at : HasBadLines bytes → ¬ (AreEmptyLines (take (at + 1) bytes))
  not_empty_at bad empty = bad.some (subst (λ (t : List ℕ). AreEmptyLines t)
      (feed.ended ∙ ap (λ (t : List ℕ). t ++ line_feed ∷ []) (sym (same_lines bad))) empty)

  pub no_head_at : HasBadLines bytes → ¬ (IsHead (take (at + 1) bytes ++ crlf_bytes))
  no_head_at bad is = bad.bad (subst (λ (t : List ℕ). IsHead t)
      (with_end ∙ ap (λ (t : List ℕ). t ++ line_feed ∷ crlf_bytes) (sym (same_lines bad))) is)
