use Rattle.std.proofs.Common.{◌≡◌, length, map, All}
use Rattle.httparse.specs.Spans.{IsHeaderWithin, header_bytes}
use Rattle.dv_http.specs.Headers.{asks_to_close}
use Rattle.dv_http.proofs.headers.asks_to_close.Given as goal

abbrev pub invariant-loop-connection : goal.invariant-loop-connection
invariant-loop-connection l = record {
  within : All (IsHeaderWithin (length l.bytes)) l.rest;
  same : asks_to_close (map (header_bytes l.bytes) l.initial.headers) ≡ asks_to_close (map (header_bytes l.bytes) l.rest);
}

abbrev pub decreases-loop-connection : goal.decreases-loop-connection
decreases-loop-connection l = length l.rest
