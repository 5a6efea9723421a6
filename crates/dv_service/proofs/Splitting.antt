use Rattle.std.proofs.Common.{◌≡◌, ℕ, ◌==◌, List, [], ◌∷◌, ◌++◌, Bool, true, false, cond, filter, refl, sym, ◌∙◌, ap, append_assoc}
use Rattle.std.proofs.lemmas.List.{append-nil}
use Rattle.std.proofs.lemmas.List.Elements.{filter-append}
use Rattle.dv_service.specs.Lines.{line_feed, has_content, in_front, split_of, ended_lines, open_line, lines_of}

abbrev Split : Type 0
Split = List (List ℕ) × List ℕ

abbrev next_at : Bool → ℕ → Split → Split
next_at feed b s = cond feed (s.0 ++ s.1 ∷ [], []) (s.0, s.1 ++ b ∷ [])

step : (feed first : Bool) (x b : ℕ) (s : Split) → cond first ([] ∷ (next_at feed b s).0, (next_at feed b s).1) (in_front x (next_at feed b s)) ≡ next_at feed b (cond first ([] ∷ s.0, s.1) (in_front x s))
step true true x b s = refl
step false true x b s = refl
step true false x b ([], r) = refl
step true false x b (p ∷ ps, r) = refl
step false false x b ([], r) = refl
step false false x b (p ∷ ps, r) = refl

split_of-one : (t : List ℕ) (b : ℕ) → split_of (t ++ b ∷ []) ≡ next_at (b == line_feed) b (split_of t)
unfolding split_of
split_of-one [] b = refl
split_of-one (x ∷ t) b = rw (split_of-one t b) (step (b == line_feed) (x == line_feed) x b (split_of t))

-- a line feed ends the line
pub ended_lines-feed : (t : List ℕ) → ended_lines (t ++ line_feed ∷ []) ≡ lines_of t
unfolding ended_lines open_line
ended_lines-feed t = rw (split_of-one t line_feed) (filter-append has_content (split_of t).0 ((split_of t).1 ∷ []))

pub open_line-feed : (t : List ℕ) → open_line (t ++ line_feed ∷ []) ≡ []
unfolding open_line
open_line-feed t = ap (λ s. s.1) (split_of-one t line_feed)

-- another byte goes on with it
pub ended_lines-byte : (t : List ℕ) (b : ℕ) → (b == line_feed) ≡ false → ended_lines (t ++ b ∷ []) ≡ ended_lines t
unfolding ended_lines
ended_lines-byte t b e = rw (split_of-one t b, e) refl

pub open_line-byte : (t : List ℕ) (b : ℕ) → (b == line_feed) ≡ false → open_line (t ++ b ∷ []) ≡ open_line t ++ b ∷ []
unfolding open_line
open_line-byte t b e =
    let after = ap (λ (s : Split). s.1) (split_of-one t b) in rw e at after

pub ended_lines-nil : ended_lines [] ≡ []
unfolding ended_lines split_of
ended_lines-nil = refl

pub open_line-nil : open_line [] ≡ []
unfolding open_line split_of
open_line-nil = refl

grows_at : (t : List ℕ) (b : ℕ) (feed : Bool) → (b == line_feed) ≡ feed → (rest : List (List ℕ)) × (ended_lines (t ++ b ∷ []) ≡ ended_lines t ++ rest)
unfolding ended_lines
grows_at t b true e = (filter has_content ((split_of t).1 ∷ []), rw (split_of-one t b, e) (filter-append has_content (split_of t).0 ((split_of t).1 ∷ [])))
grows_at t b false e = ([], rw (split_of-one t b, e) (sym (append-nil _)))

-- lines that have ended stay
pub ended_lines-append : (t more : List ℕ) → (rest : List (List ℕ)) × (ended_lines (t ++ more) ≡ ended_lines t ++ rest)
ended_lines-append t [] = ([], ap ended_lines (append-nil t) ∙ sym (append-nil _))
ended_lines-append t (b ∷ more) =
    let first = grows_at t b _ refl in
    let later = ended_lines-append (t ++ b ∷ []) more in
    (first.0 ++ later.0, ap ended_lines (sym (append_assoc t (b ∷ []) more)) ∙ later.1 ∙ rw (first.1, append_assoc) refl)
