-- The messages of bytes that go on.
use Rattle.std.proofs.Common.{◌≡◌, ℕ, ◌≤◌, Bool, true, false, List, [], ◌∷◌, ◌++◌, length, drop, refl, sym, ap, ◌∙◌, subst, arith, All}
use Rattle.std.proofs.lemmas.List.{length-append, take-append-le, drop-append-le}
use Rattle.std.proofs.lemmas.List.Elements.{All-head, All-tail}
use Rattle.std.specs.Bool.{MatchBool}
use Rattle.std.specs.Prelude.{◌||◌}
use Rattle.std.specs.List.{list_any}
use Rattle.httparse.specs.Grammar.{print_request}
use Rattle.dv_http.specs.declared.message.HttpMessage.{HttpMessage}
use Rattle.dv_http.specs.Message.{message_of, BeginsWithMessage}
use Rattle.dv_http.specs.Stream.{Messages}
use Rattle.dv_http.proofs.Hopes.{BeginsWithHead-append}
use Rattle.dv_http.proofs.Hearing.{message_unique}

-- the message is there whatever follows
BeginsWithMessage-append : (bytes more : List ℕ) (message : HttpMessage) (used : ℕ) → BeginsWithMessage bytes message used
    → BeginsWithMessage (bytes ++ more) message used
BeginsWithMessage-append bytes more message used is = record {
  head = is.head;
  after = is.after ++ more;
  begins = BeginsWithHead-append bytes is.head is.after more is.begins;
  short = is.short;
  body = is.body;
  announced = is.announced;
  there = omega (arith, is.there, length-append is.after more);
  told = is.told ∙ ap (λ (t : List ℕ). message_of is.head t) (sym (take-append-le is.body is.after more is.there));
  taken = is.taken;
}

-- it takes no more bytes than there are
used-le : (bytes : List ℕ) (message : HttpMessage) (used : ℕ) → BeginsWithMessage bytes message used → used ≤ length bytes
used-le bytes message used is =
    omega (
      arith,
      is.taken,
      is.there,
      ap (λ (t : List ℕ). length t) is.begins.reads.1,
      length-append (print_request is.head) is.after,
    )

-- a message that leaves the connection open goes on, and so do the messages after it
abbrev pub Opens : HttpMessage → Type 0
Opens message = message.closes ≡ false

open_step : (b : Bool) (P Q R S : Type 0) → b ≡ false → (Q → S) → MatchBool b P Q → MatchBool b R S
open_step true P Q R S is step q = absurd (cc is)
open_step false P Q R S is step q = step q

pub Messages-append : (first more : List ℕ) (before later : List HttpMessage) (left rest : List ℕ)
    → Messages first before left → All Opens before → Messages (left ++ more) later rest
    → Messages (first ++ more) (before ++ later) rest
Messages-append first more [] later left rest is opens next =
    subst (λ (b : List ℕ). Messages (b ++ more) later rest) is.1 next
Messages-append first more (message ∷ before) later left rest is opens next = (
  is.0,
  BeginsWithMessage-append first more message is.0 is.1,
  open_step message.closes _ _ _ _ (All-head Opens message before opens)
      (λ after. subst (λ (b : List ℕ). Messages b (before ++ later) rest)
      (sym (drop-append-le is.0 first more (used-le first message is.0 is.1)))
      (Messages-append (drop is.0 first) more before later left rest after (All-tail Opens message before opens) next))
      is.2,
)

shut_step : (b : Bool) (others : Bool) (P Q S : Type 0) → (b || others) ≡ true → (others ≡ true → Q → S) → MatchBool b P Q
    → MatchBool b P S
shut_step true others P Q S closes step p = p
shut_step false others P Q S closes step q = step closes q

-- after a message that closes the connection nothing else counts
pub Messages-closed : (first more : List ℕ) (messages : List HttpMessage) (rest : List ℕ)
    → Messages first messages rest → list_any (λ message. message.closes) messages ≡ true
    → Messages (first ++ more) messages rest
Messages-closed first more [] rest is closes = absurd (cc closes)
Messages-closed first more (message ∷ messages) rest is closes = (
  is.0,
  BeginsWithMessage-append first more message is.0 is.1,
  shut_step message.closes (list_any (λ other. other.closes) messages) _ _ _ closes
      (λ later after. subst (λ (b : List ℕ). Messages b messages rest)
      (sym (drop-append-le is.0 first more (used-le first message is.0 is.1)))
      (Messages-closed (drop is.0 first) more messages rest after later))
      is.2,
)

both_step : (b : Bool) (P Q R S T : Type 0) → (P → R → T) → (Q → S → T) → MatchBool b P Q → MatchBool b R S → T
both_step true P Q R S T shut goes p r = shut p r
both_step false P Q R S T shut goes q s = goes q s

-- the messages of bytes and their rest are one
pub Messages_unique : (bytes : List ℕ) (one other : List HttpMessage) (r q : List ℕ)
    → Messages bytes one r → Messages bytes other q → (one ≡ other) × (r ≡ q)
Messages_unique bytes [] [] r q a b = (refl, a.1 ∙ sym b.1)
Messages_unique bytes [] (m ∷ ms) r q a b = absurd (a.0 m b.0 b.1)
Messages_unique bytes (m ∷ ms) [] r q a b = absurd (b.0 m a.0 a.1)
Messages_unique bytes (m ∷ ms) (n ∷ ns) r q a b =
    let same = message_unique bytes m n a.0 b.0 a.1 b.1 in
    let rests : MatchBool m.closes ((ns ≡ []) × (q ≡ [])) (Messages (drop a.0 bytes) ns q) =
    subst (λ (k : ℕ). MatchBool m.closes ((ns ≡ []) × (q ≡ [])) (Messages (drop k bytes) ns q)) (sym same.1)
    (subst (λ (x : HttpMessage). MatchBool x.closes ((ns ≡ []) × (q ≡ [])) (Messages (drop b.0 bytes) ns q)) (sym same.0) b.2) in
    let tails : (ms ≡ ns) × (r ≡ q) = both_step m.closes _ _ _ _ ((ms ≡ ns) × (r ≡ q))
    (λ x y. (x.0 ∙ sym y.0, x.1 ∙ sym y.1))
    (λ x y. Messages_unique (drop a.0 bytes) ms ns r q x y) a.2 rests in
    (cc (same.0, tails.0), tails.1)
