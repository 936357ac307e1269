-- CLOSE is written behind the request, where there is room.
use Rattle.std.proofs.Common.{◌≡◌, ℕ, ◌∙◌, arith}
use Rattle.exits.proofs.Closing.{close_missing, close_untold, put_most, close_five, close_laid}
use Rattle.exits.proofs.close.Goals as goal

pub returns-in_default : goal.returns-in_default
returns-in_default c = rw c.in_default.is (c.write.ensures ∙ close_missing _ _ c.if-buffer-lt43.false)

pub returns-in_default-put_request : goal.returns-in_default-put_request
returns-in_default-put_request c = rw c.in-Some.is (close_untold _ _ _ _ c.if-buffer-lt43.false c.in_default-put_request.ensures)

pub returns-in_err-closed : goal.returns-in_err-closed
returns-in_err-closed c =
    let five = close_five _ _ _ _ _ _ _ c.if-buffer-lt43.false c.in-Some-put_request.ensures c.write-2.ensures in
    let was = c.in_err-closed.was in let z : ◌≡◌ {A = ℕ} 0 1 = cc in absurd (omega arith)

pub overflow_add-result : goal.overflow_add-result
overflow_add-result c =
    let most = put_most _ _ _ _ _ _ _ c.if-buffer-lt43.false c.in-Some-put_request.ensures c.write-2.ensures in
    let five = close_five _ _ _ _ _ _ _ c.if-buffer-lt43.false c.in-Some-put_request.ensures c.write-2.ensures in
    let was = c.in_ok-closed.was in let n : c.in_ok-closed.closed ≡ 5 = cc in omega (arith, most)

pub returns : goal.returns
returns c =
    let five = close_five _ _ _ _ _ _ _ c.if-buffer-lt43.false c.in-Some-put_request.ensures c.write-2.ensures in
    let was = c.in_ok-closed.was in
    let n : c.in_ok-closed.closed ≡ 5 = cc in
    rw (n, c.in-Some.is) (close_laid _ _ _ _ _ _ _ c.if-buffer-lt43.false c.in-Some-put_request.ensures c.write-2.ensures)
