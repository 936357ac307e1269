-- Lines and logs as literal text: what each line is, those that are none, and what logs print.
use Rattle.std.specs.Prelude.{true, false, ◌≡◌, refl, ◌++◌, ℕ, List, replicate, Some, None}
use Prim.Native.String.{String}
use Rattle.exec.specs.declared.Limits.{Limits}
use Rattle.exec.specs.declared.Pool.TheVariants as Pool
use Rattle.exec.specs.declared.Stream.TheVariants.{Stdout, Stderr}
use Rattle.exec.specs.Limits.{bytes_window, frames_window, cost, limits_for}
use Rattle.decimal.specs.Decimal.{number, number_from, are_digits, value_from, digits_of, digits_before}
use Rattle.judge.specs.declared.Item.{Item}
use Rattle.judge.specs.Judge.{judged}
use Rattle.syntax.specs.Words.{bytes, same, named}
use Rattle.syntax.specs.Lines.{fields, digit, find}
use Rattle.listening.specs.declared.lines.Line.{Line}
use Rattle.listening.specs.Log.{limits_of, item_of, line_of, read, begun, hold, line_ends, eat, feeds, ended, ends, prints}

-- ---- lines

unfoldable pub reads : String → Line
unfolding bytes fields same find named number number_from are_digits value_from digit limits_of item_of line_of
reads line = line_of (fields (bytes line))

abbrev says : Item → Line
says x = Line.Says (Some x)

abbrev bad : Line
bad = Line.Says None

abbrev begins : Limits → Line
begins l = Line.Begins (Some l)

items : (reads "credit,Stdout,8" ≡ says (Item.Granted Pool.Stdout 8))
    × (reads "credit,Stderr,0" ≡ says (Item.Granted Pool.Stderr 0))
    × (reads "credit,Output,4294967295" ≡ says (Item.Granted Pool.Output 4294967295))
    × (reads "credit,Input,1" ≡ says (Item.Granted Pool.Input 1))
    × (reads "input,18446744073709551615" ≡ says (Item.Input 18446744073709551615))
    × (reads "Credit,8" ≡ says (Item.Credit 8))
    × (reads "Started" ≡ says Item.Started)
    × (reads "Stdout,4294967296" ≡ says (Item.Output Stdout 4294967296))
    × (reads "Stderr,007" ≡ says (Item.Output Stderr 7))
    × (reads "Stderr,18446744073709551615" ≡ says (Item.Output Stderr 18446744073709551615))
    × (reads "Stdout,18446744073709551615" ≡ says (Item.Output Stdout 18446744073709551615))
    × (reads "End,Stdout" ≡ says (Item.End Stdout))
    × (reads "End,Stderr" ≡ says (Item.End Stderr))
    × (reads "InputClosed" ≡ says Item.InputClosed)
    × (reads "Terminal" ≡ says Item.Terminal)
unfolding reads
items = (refl, refl, refl, refl, refl, refl, refl, refl, refl, refl, refl, refl, refl, refl, refl)

-- other words, other numbers of fields, bad fields, other letters, blanks, nothing at all
bad_lines : (reads "" ≡ bad) × (reads "," ≡ bad) × (reads "Output,Stdout,3" ≡ bad) × (reads "Started," ≡ bad) × (reads "started" ≡ bad)
    × (reads "Started\r" ≡ bad) × (reads " Started" ≡ bad) × (reads "End,stdout" ≡ bad) × (reads "End,Stdout,-" ≡ bad) × (reads "End" ≡ bad)
    × (reads "credit,Stdout,4294967296" ≡ bad) × (reads "credit,Stdin,1" ≡ bad) × (reads "credit,Stdout" ≡ bad) × (reads "Credit,4294967296" ≡ bad)
    × (reads "Credit" ≡ bad) × (reads "Credit,-1" ≡ bad) × (reads "input," ≡ bad) × (reads "input,18446744073709551616" ≡ bad)
    × (reads "Stdout,18446744073709551616" ≡ bad) × (reads "Stdout,3,616263" ≡ bad) × (reads "Stderr, 3" ≡ bad) × (reads "Terminal,-" ≡ bad)
    × (reads "InputClosed,0" ≡ bad) × (reads "Limits,4,B,8,B,8,0" ≡ bad)
unfolding reads
bad_lines = (refl, refl, refl, refl, refl, refl, refl, refl, refl, refl, refl, refl, refl, refl, refl, refl, refl, refl, refl, refl, refl, refl, refl, refl)

-- a log names two streams, as a card does: a line that names Notes, as stream or pool, is a bad one
notes : (reads "Notes,3" ≡ bad) × (reads "End,Notes" ≡ bad) × (reads "credit,Notes,8" ≡ bad)
unfolding reads
notes = (refl, refl, refl)

limits : (reads "limits,4,B,8,F,2,0" ≡ begins (limits_for 4 (bytes_window 8) (frames_window 2) false))
    × (reads "limits,4294967295,F,1,B,4294967295,1" ≡ begins (limits_for 4294967295 (frames_window 1) (bytes_window 4294967295) true))
    × (reads "limits,0,B,0,B,0,0" ≡ begins (limits_for 0 (bytes_window 0) (bytes_window 0) false))
    × (reads "limits" ≡ Line.Begins None)
    × (reads "limits,4,B,8,B,8" ≡ Line.Begins None)
    × (reads "limits,4,B,8,B,8,0," ≡ Line.Begins None)
    × (reads "limits,4,b,8,B,8,0" ≡ Line.Begins None)
    × (reads "limits,4,B,8,B,8,2" ≡ Line.Begins None)
    × (reads "limits,4294967296,B,8,B,8,0" ≡ Line.Begins None)
    × (reads "limits,4,B,8,B,-,0" ≡ Line.Begins None)
unfolding reads
limits = (refl, refl, refl, refl, refl, refl, refl, refl, refl, refl)

-- ---- logs

unfoldable pub log : String → List ℕ
unfolding bytes fields same find named number number_from are_digits value_from digit limits_of item_of line_of read begun hold line_ends eat feeds ended ends prints judged cost digits_of digits_before
log text = prints (bytes text)

logs : (log "" ≡ bytes "refused,30,0\n")
    × (log "\n" ≡ bytes "refused,30,0\n")
    × (log "Started\nTerminal\n" ≡ bytes "refused,30,0\n")
    × (log "limits,4,B,8,B,8,0" ≡ bytes "accepted,0\n")
    × (log "limits,4,B,8,B,8,0\nCredit,8\ninput,3\nCredit,3\n" ≡ bytes "accepted,3\n")
    × (log "limits,4,B,8,B,8,0\nCredit,8\ninput,3\nCredit,4\n" ≡ bytes "refused,3,3\n")
    × (log "limits,4,B,8,B,8,0\nTerminal\nStdout,0\n" ≡ bytes "refused,45,2\n")
    × (log "limits,4,B,8,B,8,0\nStarted\nEnd,Notes\n" ≡ bytes "refused,30,2\n")
    × (log "limits,0,B,8,B,8,0\nStarted\n" ≡ bytes "refused,10,0\n")
    × (log "limits,4\nStarted\n" ≡ bytes "refused,30,0\n")
    × (log "limits,4,B,8,B,8,0\nStarted\nlimits" ≡ bytes "accepted,1\nrefused,30,0\n")
    × (log "limits,4,B,8,B,8,0\nStarted\nlimits,4,B,0,B,8,0" ≡ bytes "accepted,1\nrefused,10,0\n")
    × (log "limits,4,B,8,B,8,0\nStarted\n\nStdout,0" ≡ bytes "refused,30,2\n")
    × (log "Started\nlimits,4,B,8,B,8,0\nStarted\nlimits,4,B,8,B,8,0\nStarted\nStarted\nStarted\nlimits" ≡ bytes "refused,30,0\naccepted,1\nrefused,45,2\nrefused,30,0\n")
unfolding log
logs = (refl, refl, refl, refl, refl, refl, refl, refl, refl, refl, refl, refl, refl, refl)

-- a line of 255 bytes, and one of 256; limits of 256 are a bad line of the list that stands
zeros : ℕ → List ℕ
zeros n = replicate n 48

long : (prints (bytes "limits,4,B,8,B,8,0\nCredit,8\ninput," ++ zeros 248 ++ bytes "3\n") ≡ bytes "accepted,2\n")
    × (prints (bytes "limits,4,B,8,B,8,0\nCredit,8\ninput," ++ zeros 249 ++ bytes "3\n") ≡ bytes "refused,30,2\n")
    × (prints (bytes "limits," ++ zeros 237 ++ bytes "4,B,8,B,8,0\n") ≡ bytes "accepted,0\n")
    × (prints (bytes "limits," ++ zeros 238 ++ bytes "4,B,8,B,8,0\n") ≡ bytes "refused,30,0\n")
    × (prints (bytes "limits,4,B,8,B,8,0\nStarted\nlimits," ++ zeros 238 ++ bytes "4,B,8,B,8,0\nStarted\n") ≡ bytes "refused,30,2\n")
unfolding log zeros
long = (refl, refl, refl, refl, refl)
