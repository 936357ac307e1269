-- 01's table, line by line: the call that each line makes, and the line that its answer prints; and lines that are none.
use Rattle.std.specs.Prelude.{true, false, ◌≡◌, refl, List, [], ◌∷◌, ℕ, pos, negsuc, Option, Some, None, Ok, Err}
use Rattle.exec.specs.declared.Cause.{Cause}
use Rattle.exec.specs.declared.Status.{Status}
use Prim.Native.String.{String}
use Rattle.exec.specs.declared.Pool.TheVariants as Pool
use Rattle.exec.specs.declared.Stream.TheVariants.{Stdout, Stderr}
use Rattle.exec.specs.Key.{new_key}
use Rattle.decimal.specs.Decimal.{number, number_from, are_digits, value_from, signed, digits_of, digits_before}
use Rattle.hexadecimal.specs.Hexadecimal.{unhex, are_pairs, are_hex, pairs, hex_value, hex_of, hex_digit}
use Rattle.calls.specs.Call as Call
use Rattle.calls.specs.Call.{Call, Answer}
use Rattle.syntax.specs.Words.{bytes, same, named}
use Rattle.syntax.specs.Lines.{fields, digit, status, launch_result, find, call_of, line_call, zeros}
use Rattle.syntax.specs.Answers.{answer_text, line_text}

unfoldable pub calls : String → Option Call
unfolding bytes fields same call_of find named number number_from are_digits value_from signed unhex are_pairs are_hex pairs hex_value digit status launch_result
calls line = line_call (bytes line)

prints : ℕ → Answer → List ℕ
unfolding line_text answer_text digits_of digits_before hex_of hex_digit bytes
prints n a = line_text n a

table_calls : (calls "launched,0,-,-" ≡ Some (Call.launched (Ok tt)))
    × (calls "credit,7,2,Stdout,3" ≡ Some (Call.credit (new_key 7 2) Pool.Stdout 3))
    × (calls "output,Stdout,6162636465" ≡ Some (Call.output Stdout (97 ∷ 98 ∷ 99 ∷ 100 ∷ 101 ∷ [])))
    × (calls "message,16" ≡ Some (Call.next_message (zeros 16)))
    × (calls "cancel,20,7,2,Cancelled" ≡ Some (Call.cancel 20 (new_key 7 2) Cause.Cancelled))
    × (calls "tick,35" ≡ Some (Call.tick 35))
unfolding calls
table_calls = (refl, refl, refl, refl, refl, refl)

-- what the answers print
table_prints : (prints 1 Call.Ok ≡ bytes "1,ok,-,-\n")
    × (prints 3 Call.Applied ≡ bytes "3,Applied,-,-\n")
    × (prints 4 (Call.Taken 4) ≡ bytes "4,taken,4,-\n")
    × (prints 5 (Call.Says (Call.Credit 8)) ≡ bytes "5,Credit,8,-\n")
    × (prints 6 (Call.Says Call.Started) ≡ bytes "6,Started,-,-\n")
    × (prints 7 (Call.Says (Call.Output Stdout (97 ∷ 98 ∷ 99 ∷ []))) ≡ bytes "7,Stdout,3,616263\n")
    × (prints 10 (Call.Says Call.InputClosed) ≡ bytes "10,InputClosed,-,-\n")
    × (prints 11 (Call.Says (Call.End Stdout)) ≡ bytes "11,End,Stdout,-\n")
    × (prints 12 (Call.Says (Call.End Stderr)) ≡ bytes "12,End,Stderr,-\n")
    × (prints 13 (Call.Says (Call.Terminal (record {
      status = None;
      cause = Some Cause.Cancelled;
      launch_failure = None;
      stdout_truncated = true;
      stderr_truncated = true;
      notes_truncated = false;
      reusable = false;
    }))) ≡ bytes "13,Terminal,-,-,-,Cancelled,-,11,0\n")
    × (prints 14 Call.Nothing ≡ bytes "14,none,-,-\n")
unfolding prints
table_prints = (refl, refl, refl, refl, refl, refl, refl, refl, refl, refl, refl)

-- and the answers that the table has not
other_prints : (prints 2 Call.Stale ≡ bytes "2,Stale,-,-\n")
    × (prints 3 Call.Late ≡ bytes "3,Late,-,-\n")
    × (prints 4 (Call.Refused 30) ≡ bytes "4,refused,30,-\n")
    × (prints 5 (Call.Pending (97 ∷ 98 ∷ [])) ≡ bytes "5,pending,2,6162\n")
    × (prints 6 (Call.Value 24) ≡ bytes "6,value,24,-\n")
    × (prints 7 (Call.Time (Some 15)) ≡ bytes "7,value,15,-\n")
    × (prints 8 (Call.Time None) ≡ bytes "8,none,-,-\n")
    × (prints 9 (Call.Truth true) ≡ bytes "9,value,1,-\n")
    × (prints 10 (Call.Truth false) ≡ bytes "10,value,0,-\n")
    × (prints 11 (Call.Asks (Call.Terminate Cause.TimedOut)) ≡ bytes "11,Terminate,TimedOut,-\n")
    × (prints 12 (Call.Asks (Call.Discard Stderr)) ≡ bytes "12,Discard,Stderr,-\n")
    × (prints 13 (Call.Asks Call.CloseInput) ≡ bytes "13,CloseInput,-,-\n")
    × (prints 14 (Call.Asks Call.Settle) ≡ bytes "14,Settle,-,-\n")
    × (prints 15 (Call.Came 2) ≡ bytes "15,ok,2,-\n")
    × (prints 16 (Call.Came 0) ≡ bytes "16,ok,0,-\n")
unfolding prints
other_prints = (refl, refl, refl, refl, refl, refl, refl, refl, refl, refl, refl, refl, refl, refl, refl)

-- no lines of the card: a leading blank, a plus, a trailing comma, an uppercase or odd hexadecimal, a missing or empty number, one
-- past its type, a name in other letters, a message too long, the names that the card does not have
bad_lines : (calls " tick,35" ≡ None) × (calls "tick, 35" ≡ None) × (calls "tick,+35" ≡ None) × (calls "tick,35," ≡ None)
    × (calls "output,Stdout,6A" ≡ None) × (calls "output,Stdout,616" ≡ None) × (calls "output,Stdout,-" ≡ None)
    × (calls "tick,-" ≡ None) × (calls "tick," ≡ None) × (calls "tick,18446744073709551616" ≡ None)
    × (calls "credit,7,2,stdout,3" ≡ None) × (calls "message,16385" ≡ None) × (calls "next_message,16" ≡ None) × (calls "key" ≡ None)
    × (calls "" ≡ None)
unfolding calls
bad_lines = (refl, refl, refl, refl, refl, refl, refl, refl, refl, refl, refl, refl, refl, refl, refl)

-- and good ones at their edges: leading zeros, -0, the largest time, empty bytes, pool Input, the longest message
good_lines : (calls "tick,0035" ≡ Some (Call.tick 35))
    × (calls "tick,18446744073709551615" ≡ Some (Call.tick 18446744073709551615))
    × (calls "exited,5,E-0" ≡ Some (Call.exited 5 (Some (Status.Exited (pos 0)))))
    × (calls "exited,5,-" ≡ Some (Call.exited 5 None))
    × (calls "launched,1,3,-2" ≡ Some (Call.launched (Err (record { stage = 3; error = negsuc 1 }))))
    × (calls "output,Stderr," ≡ Some (Call.output Stderr []))
    × (calls "credit,7,2,Input,0" ≡ Some (Call.credit (new_key 7 2) Pool.Input 0))
unfolding calls
good_lines = (refl, refl, refl, refl, refl, refl, refl)

-- a card opens two streams: where a line names Notes, as stream or pool, it is no call, and with Stderr in its place it is one
two_streams : (calls "credit,7,2,Stderr,3" ≡ Some (Call.credit (new_key 7 2) Pool.Stderr 3)) × (calls "credit,7,2,Notes,3" ≡ None)
    × (calls "read_allowance,Stderr" ≡ Some (Call.read_allowance Stderr)) × (calls "read_allowance,Notes" ≡ None)
    × (calls "output,Stderr,6b6e" ≡ Some (Call.output Stderr (107 ∷ 110 ∷ []))) × (calls "output,Notes,6b6e" ≡ None)
    × (calls "discarded,Stderr,2" ≡ Some (Call.discarded Stderr 2)) × (calls "discarded,Notes,2" ≡ None)
    × (calls "output_closed,Stderr" ≡ Some (Call.output_closed Stderr)) × (calls "output_closed,Notes" ≡ None)
    × (calls "output_failed,Stderr" ≡ Some (Call.output_failed Stderr)) × (calls "output_failed,Notes" ≡ None)
    × (calls "output_hung_up,Stderr" ≡ Some (Call.output_hung_up Stderr)) × (calls "output_hung_up,Notes" ≡ None)
unfolding calls
two_streams = (refl, refl, refl, refl, refl, refl, refl, refl, refl, refl, refl, refl, refl, refl)

-- of the two digits of truncation stdout's is the first, and Notes has none
truncated : (prints 1 (Call.Says (Call.Terminal (record { status = None; cause = None; launch_failure = None; stdout_truncated = true; stderr_truncated = false; notes_truncated = false; reusable = false })))
    ≡ bytes "1,Terminal,-,-,-,-,-,10,0\n")
    × (prints 2 (Call.Says (Call.Terminal (record { status = None; cause = None; launch_failure = None; stdout_truncated = false; stderr_truncated = false; notes_truncated = true; reusable = false })))
    ≡ bytes "2,Terminal,-,-,-,-,-,00,0\n")
unfolding prints
truncated = (refl, refl)
