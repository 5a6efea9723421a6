use Rattle.std.proofs.Common.{sym, ◌∙◌, refl, map}
use Rattle.std.specs.Prelude.{codes}
use Rattle.httparse.specs.Spans.{header_bytes}
use Rattle.dv_http.specs.Headers.{values_of}
use Rattle.dv_http.proofs.Values.{body_len-coded, body_len-none, body_len-one, body_len-two}
use Rattle.dv_http.proofs.headers.body_len.Goals as goal

pub returns-in_default : goal.returns-in_default
returns-in_default c = sym (body_len-coded _ _ _ c.in_default.ensures.value)

pub returns-in_default-find : goal.returns-in_default-find
returns-in_default-find c = sym (body_len-none _ c.in-None.ensures.value c.in_default-find.ensures.value)

pub returns-in_default-find-2 : goal.returns-in_default-find-2
returns-in_default-find-2 c =
    sym (body_len-two _ c.in-Some.length.value.now c.in_default-find-2.field-0.value.now (values_of (codes "content-length") (map (header_bytes c.args.bytes.now) c.in_default-find-2.field-0.rest.now))
    c.in-None.ensures.value (rw (c.in-Some.ensures.value, c.in_default-find-2.ensures.value) refl))

pub returns : goal.returns
returns c =
    c.length_of.ensures
    ∙ sym (body_len-one _ c.in-Some.length.value.now c.in-None.ensures.value
    (rw (c.in-Some.ensures.value, c.in-None-find.ensures.value) refl))
