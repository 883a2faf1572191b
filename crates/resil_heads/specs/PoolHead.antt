-- What the head of a pool of the JDK says: its sizes, its name, and what its recorder wrote, or the one error that refuses it.
use Rattle.std.specs.Prelude.{ℕ, ℤ, pos, ◌/◌, Bool, List, [], ◌∷◌, ◌++◌, Option, Some, None, Result, Ok, Err, codes, if◌then◌else◌, nat_le, ok_or, option_and_then, option_map, string_bytes, unwrap_or}
use Rattle.toml.specs.Data.{Data, Members, as_datetime}
use Rattle.toml_datetime.specs.declared.datetime.Date.{Date}
use Rattle.toml_datetime.specs.declared.datetime.Datetime.{Datetime}
use Rattle.toml_datetime.specs.declared.datetime.Offset.{Offset}
use Rattle.toml_datetime.specs.declared.datetime.Offset.TheVariants.{Z, Custom}
use Rattle.toml_datetime.specs.declared.datetime.Time.{Time}
use Rattle.resil_rule.specs.Limits.{Sizes}
use Rattle.resil_heads.specs.Checks.{and_then}
use Rattle.resil_heads.specs.Document.{Keys, check_keys, document_of}
use Rattle.resil_heads.specs.Drawing.{parse_used_drawing}
use Rattle.resil_heads.specs.Keys.{parse_at, parse_known, parse_short_text, parse_wait}
use Rattle.resil_heads.specs.Sizes.{parse_jdk_limits, required_sizes}
use Rattle.resil_heads.specs.declared.drawing.Drawing.{Drawing}
use Rattle.resil_heads.specs.declared.error.HeadError.{HeadError}
use Rattle.resil_heads.specs.declared.error.HeadError.TheVariants as error
use Rattle.resil_heads.specs.declared.pool_head.Moment.{Moment}
use Rattle.resil_heads.specs.declared.pool_head.PoolHead.{PoolHead}
use Rattle.resil_heads.specs.declared.pool_head.RecorderHead.{RecorderHead}
use Rattle.resil_heads.specs.declared.pool_head.Uses.{Uses}

-- the keys of the head of a `run`; the last three are read past
abbrev pub run_keys : List (List ℕ)
run_keys = codes "core" ∷ codes "max" ∷ codes "queue" ∷ codes "keep_alive" ∷ codes "permits" ∷ codes "layer" ∷ []

-- the keys of the head: those of a `run`, a name, those that recorders write, and those of what is drawn
abbrev pub pool_keys : Keys
pool_keys = record {
  known = run_keys ++ codes "name" ∷ codes "idle_for" ∷ codes "made" ∷ codes "record" ∷ codes "began"
      ∷ codes "from" ∷ codes "to" ∷ codes "most_waiting" ∷ codes "most_workers" ∷ [];
  required = required_sizes;
}

-- ---- Moments.

-- how many minutes an offset is ahead of UTC
abbrev pub minutes_of : Offset → ℤ
minutes_of Z = pos 0
minutes_of (Custom minutes) = minutes

-- a day, a time of day to the microsecond, and an offset
abbrev pub moment_at : Date → Time → Offset → Moment
moment_at date time offset = record {
  date = date;
  hour = time.hour;
  minute = time.minute;
  second = unwrap_or time.second 0;
  microsecond = unwrap_or time.nanosecond 0 / 1000;
  offset = minutes_of offset;
}

-- the moment of a date-time, if it has all three
abbrev pub moment_from : Datetime → Option Moment
moment_from at =
    option_and_then (λ date.
    option_and_then (λ time.
    option_map (λ offset. moment_at date time offset) at.offset) at.time) at.date

-- a value that is a date-time with all three
abbrev pub parse_moment : Data → Result Moment HeadError
parse_moment value = ok_or (option_and_then moment_from (as_datetime value)) error.BadValue

-- ---- What a recorder writes.

-- a value that is from 0 to 365 days, in microseconds
abbrev pub parse_year : Data → Result ℕ HeadError
parse_year value = and_then (parse_wait value) (λ us. if nat_le us 31536000000000 then Ok us else Err error.BadValue)

-- after how many microseconds an idle worker may end, if it is there
abbrev pub parse_idle_for : Members → Result (Option ℕ) HeadError
parse_idle_for head = parse_known parse_year (codes "idle_for") head

-- how many of the first events recreate the state in which the record begins
abbrev pub parse_made : Members → Result ℕ HeadError
parse_made head = parse_at parse_wait 0 (codes "made") head

-- when the record began, if it is there
abbrev pub parse_began : Members → Result (Option Moment) HeadError
parse_began head = parse_known parse_moment (codes "began") head

-- whose record it is, empty if it isn't there
abbrev pub parse_owner : Members → Result (List ℕ) HeadError
parse_owner head = parse_short_text (codes "record") head

-- what is read if it is used; else the default, whatever is there
abbrev pub parse_used : {A : Type 0} → Bool → A → (Members → Result A HeadError) → Members → Result A HeadError
parse_used is_used default read head = if is_used then read head else Ok default

-- what a recorder wrote: after how many microseconds an idle worker may end, how many events it made, whose record it is, and when it began
pub record RecordedView : Type 0 where
  pub idle_for : Option ℕ
  pub made : ℕ
  pub owner : List ℕ
  pub began : Option Moment

abbrev pub recorded_view : RecorderHead → RecordedView
recorded_view r = record { idle_for = r.idle_for; made = r.made; owner = string_bytes r.owner; began = r.began }

-- what a recorder wrote in a table, if it is used
abbrev pub parse_recorded : Uses → Members → Result RecordedView HeadError
parse_recorded uses head =
    and_then (parse_used uses.idle_for None parse_idle_for head) (λ idle_for.
    and_then (parse_used uses.made 0 parse_made head) (λ made.
    and_then (parse_used uses.owner [] parse_owner head) (λ owner.
    and_then (parse_used uses.began None parse_began head) (λ began.
    Ok (record { idle_for = idle_for; made = made; owner = owner; began = began })))))

-- ---- The head.

-- what a head says: the sizes of its pool, its name, what its recorder wrote, and what of its history is drawn
pub record PoolHeadView : Type 0 where
  pub limits : Sizes
  pub name : List ℕ
  pub recorded : RecordedView
  pub drawing : Drawing

abbrev pub said_of : PoolHead → PoolHeadView
said_of head = record { limits = head.limits; name = string_bytes head.name; recorded = recorded_view head.recorded; drawing = head.drawing }

-- what the bytes of a head say, or the first error
unfoldable pub pool_head_of : Uses → List ℕ → Result PoolHeadView HeadError
pool_head_of uses bytes =
    and_then (document_of bytes) (λ head.
    and_then (check_keys pool_keys head) (λ _.
    and_then (parse_short_text (codes "name") head) (λ name.
    and_then (parse_recorded uses head) (λ recorded.
    and_then (parse_used_drawing uses.drawing head) (λ drawing.
    and_then (parse_jdk_limits head) (λ limits. Ok (record { limits = limits; name = name; recorded = recorded; drawing = drawing })))))))
