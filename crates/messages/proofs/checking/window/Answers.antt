-- `messages::checking::window` meets its contract.
use native.Mathlib.Omega.{arith}
use Rattle.messages.proofs.Verdicts.{none_known}
use Rattle.messages.proofs.checking.window.Goals as goal

pub returns-else-i-base-lt-WINDOW : goal.returns-else-i-base-lt-WINDOW
returns-else-i-base-lt-WINDOW c = (omega arith, λ verdict k. none_known verdict _)
