-- The last line feed of bytes, by its place.
use Rattle.std.proofs.Common.{◌≡◌, ◌≢◌, ℕ, suc, ◌+◌, List, [], ◌∷◌, ◌++◌, length, take, drop, get_or, refl, sym, ap, ◌∙◌, subst, arith, add-one, length-drop, get_or-drop}
use Rattle.std.proofs.lemmas.Bool.{eq-eqb}
use Rattle.std.proofs.lemmas.List.{take-append-drop, take_more}
use Rattle.std.proofs.lemmas.List.Elements.{All-from_get_or, All-head, All-tail}
use Rattle.std.proofs.Math.Seq.{drop-cons}
use Rattle.memchr.specs.Find.{is_byte, Nowhere, NoneAfter, Passes}
use Rattle.httparse.specs.Ascii.{line_feed}
use Rattle.dv_http.proofs.Cuts.{HasNoFeed}

-- the place has the last line feed of the bytes
pub record HasLastFeed (bytes : List ℕ) (at : ℕ) : Type 0 where
  pub split : bytes ≡ take at bytes ++ line_feed ∷ drop (at + 1) bytes
  pub ended : take (at + 1) bytes ≡ take at bytes ++ line_feed ∷ []
  pub last : HasNoFeed (drop (at + 1) bytes)

-- what a search from the end tells
pub no_feed_found : (bytes : List ℕ) → Nowhere (Passes (is_byte line_feed) bytes) 0 (length bytes) → HasNoFeed bytes
no_feed_found bytes nowhere =
    All-from_get_or (λ byte. byte ≢ line_feed) bytes 0
    (λ i within is. nowhere i (omega arith) within (eq-eqb (get_or bytes i 0) line_feed is))

pub last_feed_found : (bytes : List ℕ) (at : ℕ) → NoneAfter (Passes (is_byte line_feed) bytes) 0 (length bytes) at
    → get_or bytes at 0 ≡ line_feed → HasLastFeed bytes at
last_feed_found bytes at none is =
    let cons : drop at bytes ≡ line_feed ∷ drop (at + 1) bytes =
    rw add-one (drop-cons bytes at 0 none.high ∙ ap (λ (b : ℕ). b ∷ drop (suc at) bytes) is) in
    record {
      split = sym (take-append-drop at bytes) ∙ ap (λ (t : List ℕ). take at bytes ++ t) cons;
      ended = take_more bytes at 0 none.high ∙ ap (λ (b : ℕ). take at bytes ++ b ∷ []) is;
      last = All-from_get_or (λ byte. byte ≢ line_feed) (drop (at + 1) bytes) 0
          (λ i within feed. none.after (at + 1 + i) (omega arith) (omega (arith, within, length-drop (at + 1) bytes))
          (eq-eqb _ line_feed (sym (get_or-drop (at + 1) bytes i 0) ∙ feed)));
    }

-- a line feed in the middle is one
feed_in : (front tail : List ℕ) → HasNoFeed (front ++ line_feed ∷ tail) → ⊥
feed_in [] tail none = All-head (λ byte. byte ≢ line_feed) line_feed tail none refl
feed_in (b ∷ front) tail none =
    feed_in front tail (All-tail (λ byte. byte ≢ line_feed) b (front ++ line_feed ∷ tail) none)

pub not_without_feed : (bytes front tail : List ℕ) → HasNoFeed bytes → bytes ≡ front ++ line_feed ∷ tail → ⊥
not_without_feed bytes front tail none e = feed_in front tail (subst (λ (b : List ℕ). HasNoFeed b) e none)

-- the last line feed stands at one place
pub last_feed_unique : (a b r q : List ℕ) → HasNoFeed r → HasNoFeed q → a ++ line_feed ∷ r ≡ b ++ line_feed ∷ q → a ≡ b
last_feed_unique [] [] r q no_r no_q e = refl
last_feed_unique [] (y ∷ b) r q no_r no_q e = absurd (not_without_feed r b q no_r (cc e))
last_feed_unique (x ∷ a) [] r q no_r no_q e = absurd (not_without_feed q a r no_q (cc e))
last_feed_unique (x ∷ a) (y ∷ b) r q no_r no_q e = cc (e, last_feed_unique a b r q no_r no_q (cc e))
