-- The request_of of an entry, read from the list of requests.
use Rattle.std.proofs.lemmas.Option.{slice_get_within}
use Rattle.script.proofs.Common.{AreRequests, List, Option, Req, Script, Some, arith, request_of, length, slice_get, ℕ, ◌<◌, ◌≡◌}

pub request_is : (c : Script) (requests : List (Option Req)) → AreRequests c requests → (p : ℕ) (r : Option Req) → slice_get requests p ≡ Some r → request_of c p ≡ r
request_is c requests at p r g =
    let lt : p < length requests = slice_get_within requests p r g in
    let long : length requests ≡ length c.entries.items = at.all in
    let e : slice_get requests p ≡ Some (request_of c p) = at.each p (omega arith) in cc
