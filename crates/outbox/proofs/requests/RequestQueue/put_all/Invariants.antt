use Rattle.std.specs.Prelude.{◌≡◌, ◌++◌, take}
use Rattle.outbox.proofs.requests.RequestQueue.put_all.Given as goal

-- those so far stand behind all others
abbrev pub invariant-loop-req : goal.invariant-loop-req
invariant-loop-req l = l.self ≡ record l.fn.self { items = l.fn.self.items ++ take l.req-index l.reqs }
