-- `input::spelling::put_post` meets its contract: the bytes of h, of w, of p and of s, one behind the other.
use mathlib.Core.Path.{refl}
use native.Mathlib.Omega.{arith}
use Rattle.input.specs.Spelling.{two_bytes, four_bytes, post_bytes}
use Rattle.input.proofs.Putting.{put_then}
use Rattle.input.proofs.spelling.put_post.Goals as goal

pub returns : goal.returns
unfolding post_bytes four_bytes two_bytes
returns c =
    let contracted = rw c.two_bytes.ensures at c.put.ensures in
    let whole = rw c.two_bytes-2.ensures at c.put-2.ensures in
    let pay = rw c.four_bytes.ensures at c.put-3.ensures in
    let supplement = rw c.four_bytes-2.ensures at c.put-4.ensures in
    let week = put_then _ _ _ _ _ contracted whole refl (omega arith) in
    put_then _ _ _ _ _ (put_then _ _ _ _ _ week pay refl (omega arith)) supplement refl (omega arith)
