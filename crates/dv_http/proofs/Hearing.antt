-- From the head at the front of the first bytes to what is heard of all of them.
use Rattle.std.proofs.Common.{◌≡◌, ℕ, ◌+◌, ◌<◌, ◌≤◌, min, List, ◌++◌, length, take, drop, refl, sym, ap, ◌∙◌, subst, arith, inl, inr, Some, ◌↔◌}
use Rattle.std.proofs.lemmas.Bool.{cases_lt}
use Rattle.std.proofs.lemmas.List.{length-take, take-append-drop, take_all, drop-append-le}
use Rattle.httparse.specs.Grammar.{RequestHead}
use Rattle.httparse.specs.declared.spans.HeaderSpan.{HeaderSpan}
use Rattle.httparse.specs.declared.spans.RequestSpans.{RequestSpans}
use Rattle.dv_http.specs.declared.message.HttpMessage.{HttpMessage}
use Rattle.dv_http.specs.declared.message.Heard.{Heard}
use Rattle.dv_http.specs.declared.message.Heard.TheVariants.{Whole, NotYet, Bad}
use Rattle.dv_http.specs.Head.{BeginsWithHead, HasNoHead, head_len, headers_of}
use Rattle.dv_http.specs.Headers.{body_len}
use Rattle.dv_http.specs.Message.{message_of, BeginsWithMessage}
use Rattle.dv_http.specs.Hopeless.{HasLongHead, HasBadLines, IsHopeless, IsUnfinished}
use Rattle.dv_http.specs.Reading.{CoverHead, IsHeardAfter, IsHeardWithout, IsHeard}
use Rattle.dv_http.proofs.Hopes.{head_unique, BeginsWithHead-take, BeginsWithHead-whole, head_len-le, message_not_hopeless}

-- bytes begin with one message at most
pub message_unique : (bytes : List ℕ) (m n : HttpMessage) (u v : ℕ) → BeginsWithMessage bytes m u → BeginsWithMessage bytes n v
    → (m ≡ n) × (u ≡ v)
message_unique bytes m n u v a b =
    let same = head_unique bytes a.head b.head a.after b.after a.begins b.begins in
    let announced : Some a.body ≡ Some b.body =
    sym a.announced ∙ ap (λ (h : RequestHead). body_len (headers_of h)) same.0 ∙ b.announced in
    let len : a.body ≡ b.body = cc announced in (
      a.told
          ∙ ap (λ (h : RequestHead). message_of h (take a.body a.after)) same.0
          ∙ ap (λ (t : List ℕ). message_of b.head (take a.body t)) same.1
          ∙ ap (λ (k : ℕ). message_of b.head (take k b.after)) len
          ∙ sym b.told,
      a.taken ∙ ap (λ (h : RequestHead). head_len h + a.body) same.0 ∙ ap (λ (k : ℕ). head_len b.head + k) len ∙ sym b.taken,
    )

-- a head at the front, and what is heard of it and of what follows
heard_head : (bytes : List ℕ) (head : RequestHead) (after : List ℕ) (heard : Heard) → BeginsWithHead bytes head after
    → head_len head ≤ 16384 → IsHeardAfter head after heard → IsHeard bytes heard
heard_head bytes head after (Whole message used) begins short is = record {
  head = head;
  after = after;
  begins = begins;
  short = short;
  body = is.0;
  announced = is.1;
  there = is.2;
  told = is.3;
  taken = is.4;
}
heard_head bytes head after NotYet begins short is = (
  λ message used other.
      let same = head_unique bytes head other.head after other.after begins other.begins in
      let announced : Some is.0 ≡ Some other.body =
      sym is.1 ∙ ap (λ (h : RequestHead). body_len (headers_of h)) same.0 ∙ other.announced in
      let len : is.0 ≡ other.body = cc announced in
      omega (arith, is.2, len, ap (λ (t : List ℕ). length t) same.1, other.there),
  λ hopeless. elim hopeless [
    | inl bad ↦
        let same = head_unique bytes head bad.head after bad.after begins bad.begins in
        let two = ap (λ (h : RequestHead). body_len (headers_of h)) same.0 in
        absurd (cc (bad.refused, two, is.1))
    | inr other ↦ elim other [
      | inl long ↦ let longer = long.longer head after begins in omega (arith, longer, short)
      | inr lines ↦ lines.none head after begins
    ]
  ],
)
heard_head bytes head after Bad begins short is =
    inl (record { head = head; after = after; begins = begins; refused = is })

-- bytes of which the first 16,384 begin with no head begin with none that is as short as that
long_head : (bytes : List ℕ) → HasNoHead (take (min (length bytes) 16384) bytes) → 16384 ≤ length bytes → HasLongHead bytes
long_head bytes none many = record {
  many = many;
  longer = λ head after begins. elim (cases_lt 16384 (head_len head)) [
    | inl longer ↦ longer
    | inr fits ↦
        let within = head_len-le bytes head after begins in
        absurd (none head _ (BeginsWithHead-take bytes head after (min (length bytes) 16384) (omega (arith, fits, within)) begins))
  ];
}

-- what is heard of bytes of which the first 16,384 begin with no head
pub heard_without : (bytes : List ℕ) (heard : Heard) → HasNoHead (take (min (length bytes) 16384) bytes)
    → IsHeardWithout (take (min (length bytes) 16384) bytes) heard → IsHeard bytes heard
heard_without bytes (Whole message used) none is = absurd is
heard_without bytes NotYet none is =
    let few : length bytes < 16384 = omega (arith, is.0, length-take (min (length bytes) 16384) bytes) in
    let all : take (min (length bytes) 16384) bytes ≡ bytes = take_all (min (length bytes) 16384) bytes (omega (arith, few)) in
    let no_head : HasNoHead bytes = subst (λ (b : List ℕ). HasNoHead b) all none in (
      λ message used other. no_head other.head other.after other.begins,
      λ hopeless. elim hopeless [
        | inl bad ↦ no_head bad.head bad.after bad.begins
        | inr other ↦ elim other [
          | inl long ↦ omega (arith, few, long.many)
          | inr lines ↦ is.1 (subst (λ (b : List ℕ). HasBadLines b) (sym all) lines)
        ]
      ],
    )
heard_without bytes Bad none is =
    elim (cases_lt (length bytes) 16384) [
      | inl few ↦
          let all : take (min (length bytes) 16384) bytes ≡ bytes =
          take_all (min (length bytes) 16384) bytes (omega (arith, few)) in
          elim is [
            | inl many ↦ absurd (omega (arith, many, few, length-take (min (length bytes) 16384) bytes))
            | inr lines ↦ inr (inr (subst (λ (b : List ℕ). HasBadLines b) all lines))
          ]
      | inr many ↦ inr (inl (long_head bytes none many))
    ]

-- a message at the front leaves no hope lost
not_hopeless : (bytes : List ℕ) (message : HttpMessage) (used : ℕ) → BeginsWithMessage bytes message used → ¬ (IsHopeless bytes)
not_hopeless bytes message used is hopeless =
    message_not_hopeless bytes message used (length bytes) is
    (subst (λ (b : List ℕ). IsHopeless b) (sym (take_all (length bytes) bytes (omega arith))) hopeless)

-- what is heard holds, and nothing else does
pub heard_whole : (bytes : List ℕ) (heard : Heard) → IsHeard bytes heard → (message : HttpMessage) (used : ℕ)
    → (heard ≡ Whole message used) ↔ BeginsWithMessage bytes message used
heard_whole bytes (Whole m u) is message used = (
  λ e.
      let one : m ≡ message = cc e in
      let two : u ≡ used = cc e in
      subst (λ (k : ℕ). BeginsWithMessage bytes message k) two
      (subst (λ (n : HttpMessage). BeginsWithMessage bytes n u) one is),
  λ other. let same = message_unique bytes m message u used is other in cc (same.0, same.1),
)
heard_whole bytes NotYet is message used = (λ e. absurd (cc e), λ other. absurd (is.0 message used other))
heard_whole bytes Bad is message used = (λ e. absurd (cc e), λ other. absurd (not_hopeless bytes message used other is))

pub heard_bad : (bytes : List ℕ) (heard : Heard) → IsHeard bytes heard → (heard ≡ Bad) ↔ IsHopeless bytes
heard_bad bytes (Whole m u) is = (λ e. absurd (cc e), λ hopeless. absurd (not_hopeless bytes m u is hopeless))
heard_bad bytes NotYet is = (λ e. absurd (cc e), λ hopeless. absurd (is.1 hopeless))
heard_bad bytes Bad is = (λ e. is, λ hopeless. refl)

pub heard_not_yet : (bytes : List ℕ) (heard : Heard) → IsHeard bytes heard → (heard ≡ NotYet) ↔ IsUnfinished bytes
heard_not_yet bytes (Whole m u) is = (λ e. absurd (cc e), λ unfinished. absurd (unfinished.0 m u is))
heard_not_yet bytes NotYet is = (λ e. is, λ unfinished. refl)
heard_not_yet bytes Bad is = (λ e. absurd (cc e), λ unfinished. absurd (unfinished.1 is))

-- the head is there in all the bytes, and what follows it
pub head_of_window : (bytes : List ℕ) (headers : List HeaderSpan) (spans : RequestSpans) (head : RequestHead)
    → CoverHead (take (min (length bytes) 16384) bytes) headers spans head
    → BeginsWithHead bytes head (drop spans.len bytes) × (head_len head ≤ 16384)
head_of_window bytes headers spans head covers =
    let cut : ℕ = min (length bytes) 16384 in
    let within = head_len-le (take cut bytes) head (drop spans.len (take cut bytes)) covers.begins in
    let rest : drop spans.len (take cut bytes) ++ drop cut bytes ≡ drop spans.len bytes =
    sym (drop-append-le spans.len (take cut bytes) (drop cut bytes) (omega (arith, within, covers.len)))
    ∙ ap (λ (b : List ℕ). drop spans.len b) (take-append-drop cut bytes) in (
      subst (λ (r : List ℕ). BeginsWithHead bytes head r) rest
          (BeginsWithHead-whole bytes head (drop spans.len (take cut bytes)) cut covers.begins),
      omega (arith, within, length-take cut bytes),
    )

-- what is heard after the head in the first bytes is heard of all
pub heard_with : (bytes : List ℕ) (headers : List HeaderSpan) (spans : RequestSpans) (heard : Heard)
    → ((head : RequestHead) × CoverHead (take (min (length bytes) 16384) bytes) headers spans head)
    → ((head : RequestHead) → CoverHead (take (min (length bytes) 16384) bytes) headers spans head
    → IsHeardAfter head (drop spans.len bytes) heard) → IsHeard bytes heard
heard_with bytes headers spans heard (head, covers) after =
    let there = head_of_window bytes headers spans head covers in
    heard_head bytes head (drop spans.len bytes) heard there.0 there.1 (after head covers)
