use Rattle.std.proofs.Common.{◌≡◌, map, drop}
use Rattle.httparse.specs.Spans.{header_bytes}
use Rattle.dv_http.specs.Headers.{values_of}
use Rattle.dv_http.proofs.headers.find.Given as goal

-- no header of that name stands before this one
abbrev pub invariant-loop-at : goal.invariant-loop-at
invariant-loop-at l =
    values_of l.name (map (header_bytes l.bytes) l.headers)
    ≡ values_of l.name (map (header_bytes l.bytes) (drop l.at l.headers))
