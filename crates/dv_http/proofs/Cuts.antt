-- Where a line feed stands in the bytes of a head: at the end of an empty line before it, of its request line, of a
-- header line, or after all of them.
use Rattle.std.proofs.Common.{◌≡◌, ◌≢◌, ℕ, ◌+◌, ◌≤◌, Bool, false, not, eqb, List, [], ◌∷◌, ◌++◌, length, refl, sym, ap, ◌∙◌, subst, arith, append_assoc, append-nil, inl, inr, ◌⊎◌, All}
use Rattle.std.proofs.lemmas.List.{length-append}
use Rattle.std.proofs.Math.Seq.{take-append_seam}
use Rattle.std.proofs.lemmas.List.Elements.{All-append, All-take, All-nil, All-cons, All-head, All-tail}
use Rattle.std.specs.List.{flat_map}
use Rattle.std.specs.Prelude.{codes}
use Rattle.std.proofs.lemmas.List.Sums.{AllPass-from_list_all}
use Rattle.std.proofs.lemmas.Bool.{true≢false}
use Rattle.httparse.specs.Ascii.{line_feed, carriage_return, space, colon, digit_zero, crlf_bytes}
use Rattle.httparse.specs.Grammar.{is_token_byte, is_uri_byte, is_value_byte, AllPass, LineEnd, crlf, lf, print_end, print_blank, print_version, Field, print_field, IsField, RequestHead, IsRequestHead, print_request}
use Rattle.httparse.proofs.GrammarLemmas.{print_request-append, cons-append}
use Rattle.dv_http.specs.Head.{BeginsWithHead, IsHead, AreEmptyLines}

-- none of the bytes is a line feed
abbrev pub HasNoFeed : List ℕ → Type 0
HasNoFeed bytes = All (λ byte. byte ≢ line_feed) bytes

-- the text is one line
pub record IsLine (text : List ℕ) : Type 0 where
  pub body : List ℕ
  pub no_feed : HasNoFeed body
  pub ended : text ≡ body ++ line_feed ∷ []

-- a line feed stands at the end of the line, or after it
line_cut : (body front more rest : List ℕ) → HasNoFeed body
    → front ++ line_feed ∷ more ≡ body ++ line_feed ∷ rest
    → ((front ≡ body) × (more ≡ rest))
    ⊎ ((past : List ℕ) × (front ≡ body ++ line_feed ∷ past) × (past ++ line_feed ∷ more ≡ rest))
line_cut [] [] more rest none e = inl (refl, cc e)
line_cut [] (b ∷ front) more rest none e = inr (front, cc e, cc e)
line_cut (c ∷ body) [] more rest none e = absurd (All-head (λ byte. byte ≢ line_feed) c body none (cc e))
line_cut (c ∷ body) (b ∷ front) more rest none e =
    elim (line_cut body front more rest (All-tail (λ byte. byte ≢ line_feed) c body none) (cc e)) [
      | inl at ↦ inl (cc (e, at.0), at.1)
      | inr past ↦ inr (past.0, cc (e, past.1), past.2)
    ]

-- the same for a text that is a line
pub text_cut : (text front more rest : List ℕ) → IsLine text → front ++ line_feed ∷ more ≡ text ++ rest
    → (front ++ line_feed ∷ [] ≡ text)
    ⊎ ((past : List ℕ) × (front ≡ text ++ past) × (past ++ line_feed ∷ more ≡ rest))
text_cut text front more rest line e =
    let split : front ++ line_feed ∷ more ≡ line.body ++ line_feed ∷ rest =
    e ∙ ap (λ (t : List ℕ). t ++ rest) line.ended ∙ append_assoc line.body (line_feed ∷ []) rest in
    elim (line_cut line.body front more rest line.no_feed split) [
      | inl at ↦ inl (ap (λ (t : List ℕ). t ++ line_feed ∷ []) at.0 ∙ sym line.ended)
      | inr past ↦ inr (
        past.0,
        past.1 ∙ sym (ap (λ (t : List ℕ). t ++ past.0) line.ended ∙ append_assoc line.body (line_feed ∷ []) past.0),
        past.2,
      )
    ]

-- in lines that are printed one after the other, a line feed stands at the end of one, or after them all
pub record EndsIn {A : Type 0} (print : A → List ℕ) (all : List A) (front : List ℕ) : Type 0 where
  pub done : List A
  pub later : List A
  pub split : all ≡ done ++ later
  pub ended : front ++ line_feed ∷ [] ≡ flat_map print done

pub lines_cut : {A : Type 0} (print : A → List ℕ) (all : List A) (front more rest : List ℕ)
    → All (λ x. IsLine (print x)) all → front ++ line_feed ∷ more ≡ flat_map print all ++ rest
    → EndsIn print all front
    ⊎ ((past : List ℕ) × (front ≡ flat_map print all ++ past) × (past ++ line_feed ∷ more ≡ rest))
lines_cut print [] front more rest are e = inr (front, refl, e)
lines_cut {A} print (x ∷ xs) front more rest are e =
    let split : front ++ line_feed ∷ more ≡ print x ++ (flat_map print xs ++ rest) =
    e ∙ append_assoc (print x) (flat_map print xs) rest in
    elim (text_cut (print x) front more (flat_map print xs ++ rest) (All-head (λ y. IsLine (print y)) x xs are) split) [
      | inl at ↦ inl (record {
        done = x ∷ [];
        later = xs;
        split = refl;
        ended = at ∙ sym (append-nil (print x));
      })
      | inr past ↦ elim (lines_cut print xs past.0 more rest (All-tail (λ y. IsLine (print y)) x xs are) past.2) [
        | inl ends ↦ inl (record {
          done = x ∷ ends.done;
          later = ends.later;
          split = ap (λ (ys : List A). x ∷ ys) ends.split;
          ended = ap (λ (t : List ℕ). t ++ line_feed ∷ []) past.1
              ∙ append_assoc (print x) past.0 (line_feed ∷ [])
              ∙ ap (λ (t : List ℕ). print x ++ t) ends.ended;
        })
        | inr beyond ↦ inr (
          beyond.0,
          past.1 ∙ ap (λ (t : List ℕ). print x ++ t) beyond.1 ∙ sym (append_assoc (print x) (flat_map print xs) beyond.0),
          beyond.2,
        )
      ]
    ]

-- a text that passes a test which a line feed fails has none
no_feed_by : (test : ℕ → Bool) (text : List ℕ) → test line_feed ≡ false → AllPass test text → HasNoFeed text
no_feed_by test text fails pass k d within is = true≢false (sym (pass k d within) ∙ ap test is ∙ fails)

token_fails : is_token_byte line_feed ≡ false
unfolding is_token_byte
token_fails = refl

no_feed-append : (a b : List ℕ) → HasNoFeed a → HasNoFeed b → HasNoFeed (a ++ b)
no_feed-append = All-append (λ byte. byte ≢ line_feed)

no_feed-cons : (b : ℕ) (bytes : List ℕ) → b ≢ line_feed → HasNoFeed bytes → HasNoFeed (b ∷ bytes)
no_feed-cons = All-cons (λ byte. byte ≢ line_feed)

no_feed-nil : HasNoFeed []
no_feed-nil = All-nil (λ byte. byte ≢ line_feed)

-- a body with any line end is a line
ended_line : (body : List ℕ) (end : LineEnd) → HasNoFeed body → IsLine (body ++ print_end end)
ended_line body crlf none = record {
  body = body ++ carriage_return ∷ [];
  no_feed = no_feed-append body (carriage_return ∷ []) none (no_feed-cons 13 [] (omega arith) no_feed-nil);
  ended = sym (append_assoc body (carriage_return ∷ []) (line_feed ∷ []));
}
ended_line body lf none = record { body = body; no_feed = none; ended = refl }

-- empty lines are lines
pub blank_lines : (ends : List LineEnd) → All (λ end. IsLine (print_end end)) ends
blank_lines [] = All-nil (λ end. IsLine (print_end end))
blank_lines (end ∷ ends) =
    All-cons (λ other. IsLine (print_end other)) end ends (ended_line [] end no_feed-nil) (blank_lines ends)

-- a header line is a line
field_line : (field : Field) → IsField field → IsLine (print_field field)
field_line field is =
    ended_line (field.name ++ colon ∷ field.raw) field.end
    (no_feed-append field.name (colon ∷ field.raw) (no_feed_by is_token_byte field.name token_fails is.name.1)
    (no_feed-cons colon field.raw (omega arith) (no_feed_by is_value_byte field.raw refl is.raw)))

field_lines : (fields : List Field) → All IsField fields → All (λ field. IsLine (print_field field)) fields
field_lines fields are k d within = field_line _ (are k d within)

-- the request line without its end
abbrev request_text : RequestHead → List ℕ
request_text head = head.method ++ (space ∷ (head.target ++ (space ∷ print_version head.minor)))

abbrev request_line : RequestHead → List ℕ
request_line head = request_text head ++ print_end head.line_end

version_text : (minor : ℕ) → HasNoFeed (print_version minor)
version_text minor =
    no_feed-append (codes "HTTP/1.") ((digit_zero + minor) ∷ [])
    (no_feed_by (λ b. not (eqb b line_feed)) (codes "HTTP/1.") refl
    (AllPass-from_list_all (λ b. not (eqb b line_feed)) (codes "HTTP/1.") refl))
    (no_feed-cons (digit_zero + minor) [] (omega arith) no_feed-nil)

request_line_is : (head : RequestHead) → IsRequestHead head → IsLine (request_line head)
request_line_is head is =
    let version = no_feed-cons space (print_version head.minor) (omega arith) (version_text head.minor) in
    let target = no_feed-append head.target (space ∷ print_version head.minor)
    (no_feed_by is_uri_byte head.target refl is.target.1) version in
    ended_line (request_text head) head.line_end
    (no_feed-append head.method (space ∷ (head.target ++ (space ∷ print_version head.minor)))
    (no_feed_by is_token_byte head.method token_fails is.method.1)
    (no_feed-cons space (head.target ++ (space ∷ print_version head.minor)) (omega arith) target))

-- the bytes of a head are those of its lines
print_request-lines : (head : RequestHead) (rest : List ℕ) → print_request head ++ rest
    ≡ print_blank head.blank ++ (request_line head ++ (flat_map print_field head.fields ++ (print_end head.last ++ rest)))
print_request-lines head rest =
    print_request-append head rest
    ∙ regroup (print_blank head.blank) head.method head.target (print_version head.minor) (print_end head.line_end)
    (flat_map print_field head.fields) (print_end head.last) rest
  where
    regroup : (a b c d e f g r : List ℕ)
        → a ++ (b ++ 32 ∷ (c ++ 32 ∷ (d ++ (e ++ ((f ++ g) ++ r)))))
        ≡ a ++ (((b ++ (32 ∷ (c ++ (32 ∷ d)))) ++ e) ++ (f ++ (g ++ r)))
    regroup a b c d e f g r = simp (append_assoc, cons-append)

-- the lines of a head up to a header line of it are, with an empty line after them, a head
shorter_head : (head : RequestHead) (done : List Field) (front : List ℕ) → IsRequestHead head → All IsField done
    → length done ≤ 64
    → front ++ line_feed ∷ [] ≡ print_blank head.blank ++ (request_line head ++ flat_map print_field done)
    → IsHead (front ++ line_feed ∷ crlf_bytes)
shorter_head head done front is fields few e =
    let short : RequestHead = record head { fields = done; last = crlf } in (
      short,
      record {
        reads = (
          record {
            method = is.method;
            target = is.target;
            target_text = is.target_text;
            minor = is.minor;
            fields = fields;
          },
          sym (append_assoc front (line_feed ∷ []) crlf_bytes)
              ∙ ap (λ (t : List ℕ). t ++ crlf_bytes) e
              ∙ regroup (print_blank head.blank) (request_line head) (flat_map print_field done) crlf_bytes
              ∙ sym (print_request-lines short []),
        );
        few = few;
      },
    )
  where
    regroup : (a b c d : List ℕ) → (a ++ (b ++ c)) ++ d ≡ a ++ (b ++ (c ++ (d ++ [])))
    regroup a b c d = simp (append_assoc, append-nil)

-- Where a line feed of bytes that begin with a head stands: among the empty lines before it, after its request line or
-- a header line of it, or after the whole head.
pub data HeadCut (head : RequestHead) (front : List ℕ) : Type 0 where
  in_empty_lines : AreEmptyLines (front ++ line_feed ∷ []) → HeadCut head front
  after_line : IsHead (front ++ line_feed ∷ crlf_bytes) → HeadCut head front
  after_head : (past : List ℕ) → front ++ line_feed ∷ [] ≡ print_request head ++ past → HeadCut head front

-- a line feed after the empty lines and the request line
past_request_line : (head : RequestHead) (rest front more past : List ℕ) → BeginsWithHead (front ++ line_feed ∷ more) head rest
    → front ≡ print_blank head.blank ++ (request_line head ++ past)
    → past ++ line_feed ∷ more ≡ flat_map print_field head.fields ++ (print_end head.last ++ rest)
    → HeadCut head front
past_request_line head rest front more past begins front_is e =
    elim (lines_cut print_field head.fields past more (print_end head.last ++ rest)
    (field_lines head.fields begins.reads.0.fields) e) [
      | inl ends ↦
          let fields : All IsField (ends.done ++ ends.later) =
          subst (λ (fs : List Field). All IsField fs) ends.split begins.reads.0.fields in
          let done : All IsField ends.done =
          subst (λ (fs : List Field). All IsField fs) (take-append_seam ends.done ends.later)
          (All-take IsField (length ends.done) (ends.done ++ ends.later) fields) in
          after_line (shorter_head head ends.done front begins.reads.0 done
          (omega (arith, ap (λ (fs : List Field). length fs) ends.split, length-append ends.done ends.later, begins.few))
          (ended front_is ∙ regroup (print_blank head.blank) (request_line head) past (line_feed ∷ [])
          ∙ ap (λ (t : List ℕ). print_blank head.blank ++ (request_line head ++ t)) ends.ended))
      | inr far ↦ elim (text_cut (print_end head.last) far.0 more rest (ended_line [] head.last no_feed-nil) far.2) [
        | inl at ↦ after_head [] (ended front_is
            ∙ regroup (print_blank head.blank) (request_line head) past (line_feed ∷ [])
            ∙ ap (λ (t : List ℕ). print_blank head.blank ++ (request_line head ++ (t ++ line_feed ∷ []))) far.1
            ∙ ap (λ (t : List ℕ). print_blank head.blank ++ (request_line head ++ t))
            (append_assoc (flat_map print_field head.fields) far.0 (line_feed ∷ []))
            ∙ ap (λ (t : List ℕ). print_blank head.blank ++ (request_line head ++ (flat_map print_field head.fields ++ t)))
            (at ∙ sym (append-nil (print_end head.last)))
            ∙ sym (print_request-lines head []))
        | inr beyond ↦ after_head (beyond.0 ++ line_feed ∷ []) (ended front_is
            ∙ regroup (print_blank head.blank) (request_line head) past (line_feed ∷ [])
            ∙ ap (λ (t : List ℕ). print_blank head.blank ++ (request_line head ++ (t ++ line_feed ∷ []))) far.1
            ∙ ap (λ (t : List ℕ). print_blank head.blank ++ (request_line head ++ t))
            (append_assoc (flat_map print_field head.fields) far.0 (line_feed ∷ []))
            ∙ ap (λ (t : List ℕ). print_blank head.blank ++ (request_line head ++ (flat_map print_field head.fields ++ (t ++ line_feed ∷ []))))
            beyond.1
            ∙ ap (λ (t : List ℕ). print_blank head.blank ++ (request_line head ++ (flat_map print_field head.fields ++ t)))
            (append_assoc (print_end head.last) beyond.0 (line_feed ∷ []))
            ∙ sym (print_request-lines head (beyond.0 ++ line_feed ∷ [])))
      ]
    ]
  where
    ended : {a b : List ℕ} → a ≡ b → a ++ line_feed ∷ [] ≡ b ++ line_feed ∷ []
    ended e = ap (λ (t : List ℕ). t ++ line_feed ∷ []) e

    regroup : (a b c d : List ℕ) → (a ++ (b ++ c)) ++ d ≡ a ++ (b ++ (c ++ d))
    regroup a b c d = simp append_assoc

pub head_cut : (head : RequestHead) (rest front more : List ℕ) → BeginsWithHead (front ++ line_feed ∷ more) head rest
    → HeadCut head front
head_cut head rest front more begins =
    elim (lines_cut print_end head.blank front more (request_line head ++ (flat_map print_field head.fields
    ++ (print_end head.last ++ rest))) (blank_lines head.blank) (begins.reads.1 ∙ print_request-lines head rest)) [
      | inl ends ↦ in_empty_lines (ends.done, ends.ended)
      | inr past ↦ elim (text_cut (request_line head) past.0 more (flat_map print_field head.fields
          ++ (print_end head.last ++ rest)) (request_line_is head begins.reads.0) past.2) [
            | inl at ↦ after_line (shorter_head head [] front begins.reads.0 (All-nil IsField) (omega arith)
                (ap (λ (t : List ℕ). t ++ line_feed ∷ []) past.1 ∙ append_assoc (print_blank head.blank) past.0 (line_feed ∷ [])
                ∙ ap (λ (t : List ℕ). print_blank head.blank ++ t) (at ∙ sym (append-nil (request_line head)))))
            | inr far ↦ past_request_line head rest front more far.0 begins
                (past.1 ∙ ap (λ (t : List ℕ). print_blank head.blank ++ t) far.1) far.2
          ]
    ]
