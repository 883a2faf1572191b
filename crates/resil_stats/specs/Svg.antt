-- What is known of the text of a chart: how it begins, and how the elements of its bars, refusals and columns begin.
use Rattle.std.specs.Prelude.{ℕ, ◌≡◌, ◌==◌, ◌||◌, ◌++◌, ◌∷◌, [], List, Option, chars, codes, encode_utf8, flat_map, if◌then◌else◌, length, nat_lt}
use Rattle.std.specs.Fmt.{decimal}
use Rattle.resil_rule.specs.Limits.{Sizes}
use Rattle.resil_rule.specs.declared.event.Id.{Id}
use Rattle.resil_rule.specs.declared.verdict.Verdict.{Verdict}
use Rattle.resil_jdk.specs.declared.event.JdkEvent.{JdkEvent}
use Rattle.resil_stats.specs.Picture.{IsPictureOf}
use Rattle.resil_stats.specs.declared.bars.Bar.{Bar}
use Rattle.resil_stats.specs.declared.bars.Start.{Start}
use Rattle.resil_stats.specs.declared.bars.Start.TheVariants.{Core, Extra, Queued, Handed}
use Rattle.resil_stats.specs.declared.columns.Column.{Column}
use Rattle.resil_stats.specs.declared.marks.Mark.{Mark}
use Rattle.resil_stats.specs.declared.marks.Sign.{Sign}
use Rattle.resil_stats.specs.declared.marks.Sign.TheVariants as shown
use Rattle.resil_stats.specs.declared.picture.Picture.{Picture}
use Rattle.resil_stats.specs.declared.window.Extent.{Extent}

-- the beginning of a chart of this many events
abbrev pub opening : ℕ → List ℕ
opening events = codes "<svg xmlns=\"http://www.w3.org/2000/svg\" data-events=\"" ++ decimal events ++ codes "\""

-- a character as XML writes it: white space is a blank, and what isn't a character there is U+FFFD
abbrev pub xml_letter : ℕ → List ℕ
xml_letter c =
    if c == 38 then codes "&amp;"
    else if c == 60 then codes "&lt;"
    else if c == 62 then codes "&gt;"
    else if c == 34 then codes "&quot;"
    else if c == 39 then codes "&#39;"
    else if c == 9 || c == 10 || c == 13 then codes " "
    else if nat_lt c 32 || c == 65534 || c == 65535 then encode_utf8 65533
    else encode_utf8 c

-- the line of a name above the title, none if it is empty
abbrev pub name_line : List ℕ → List ℕ
name_line name =
    if length name == 0 then [] else codes "<text x=\"6\" y=\"2\" font-size=\"17\" font-weight=\"bold\">" ++ flat_map xml_letter (chars name) ++ codes "</text>\n"

-- The style of each chart: for a dark background, a colour instead of each that is drawn with. It refers to nothing outside.
abbrev pub style : List ℕ
style = codes "<style>@media (prefers-color-scheme: dark) {\n[fill=\"#fff\"]{fill:#0d1117}[fill=\"#222\"]{fill:#e6edf3}\n[fill=\"#666\"]{fill:#9198a1}[fill=\"#f3f3f1\"]{fill:#161b22}[fill=\"#0072b2\"]{fill:#58a6ff}\n[fill=\"#e08a00\"]{fill:#9a5b00}[fill=\"#b4e0fa\"]{fill:#1f4a6b}[fill=\"#bcd7e8\"]{fill:#26394d}\n[fill=\"#7a4f00\"]{fill:#d29922}[fill=\"#7b3294\"]{fill:#d2a8ff}[fill=\"#a3142a\"]{fill:#ff7b72}\n[fill=\"#888\"]{fill:#6e7681}[stroke=\"#fff\"]{stroke:#0d1117}[stroke=\"#222\"]{stroke:#e6edf3}\n[stroke=\"#666\"]{stroke:#9198a1}[stroke=\"#e3e3e3\"]{stroke:#2b313a}[stroke=\"#0072b2\"]{stroke:#58a6ff}\n[stroke=\"#1c5f85\"]{stroke:#79c0ff}[stroke=\"#7a4f00\"]{stroke:#d29922}[stroke=\"#7b3294\"]{stroke:#d2a8ff}\n[stroke=\"#a3142a\"]{stroke:#ff7b72}[stroke=\"#888\"]{stroke:#6e7681}\n}</style>\n"

-- ---- Elements.

-- the class of a bar, by how its job started
abbrev pub start_class : Start → List ℕ
start_class Core = codes "core"
start_class Extra = codes "extra"
start_class Queued = codes "queued"
start_class Handed = codes "handed"

-- how the element of a bar begins: with its class, its job, its places and its row
abbrev pub bar_opening : Bar → List ℕ
bar_opening bar =
    codes "<rect class=\"job " ++ start_class bar.start ++ codes "\" data-job=\"" ++ decimal bar.id.caller ++ codes "." ++ decimal bar.id.number
    ++ codes "\" data-from=\"" ++ decimal bar.from ++ codes "\" data-to=\"" ++ decimal bar.to ++ codes "\" data-row=\"" ++ decimal bar.row ++ codes "\" "

-- how the element of a refusal begins: with its reason, its job and its place
abbrev pub refusal_opening : List ℕ → Id → ℕ → List ℕ
refusal_opening reason id at =
    codes "<path class=\"refused " ++ reason ++ codes "\" data-job=\"" ++ decimal id.caller ++ codes "." ++ decimal id.number
    ++ codes "\" data-at=\"" ++ decimal at ++ codes "\" "

-- how the element of a worker that begins or ends without a job begins: with the class and its place
abbrev pub worker_opening : List ℕ → ℕ → List ℕ
worker_opening class at = codes "<path class=\"" ++ class ++ codes "\" data-at=\"" ++ decimal at ++ codes "\" "

-- how the element of a removal begins: with its job and its place
abbrev pub removal_opening : Id → ℕ → List ℕ
removal_opening id at =
    codes "<path class=\"removed\" data-job=\"" ++ decimal id.caller ++ codes "." ++ decimal id.number ++ codes "\" data-at=\"" ++ decimal at ++ codes "\" "

abbrev pub sign_opening : Sign → ℕ → List ℕ
sign_opening (shown.Full id) at = refusal_opening (codes "full") id at
sign_opening (shown.Closed id) at = refusal_opening (codes "closed") id at
sign_opening shown.Started at = worker_opening (codes "started") at
sign_opening shown.Culled at = worker_opening (codes "culled") at
sign_opening (shown.Removed id) at = removal_opening id at
sign_opening _ at = []

-- how the element of a mark between the bands begins; a mark of what is done to the pool lies over all of them
abbrev pub mark_opening : Mark → List ℕ
mark_opening mark = sign_opening mark.sign mark.at

-- how the element of a column begins: with its places and its numbers
abbrev pub column_opening : Column → List ℕ
column_opening column =
    codes "<rect class=\"column\" data-from=\"" ++ decimal column.from ++ codes "\" data-to=\"" ++ decimal column.to
    ++ codes "\" data-waiting=\"" ++ decimal column.waiting ++ codes "\" data-workers=\"" ++ decimal column.workers
    ++ codes "\" data-full=\"" ++ decimal column.full ++ codes "\" data-closed=\"" ++ decimal column.closed ++ codes "\" "

-- ---- Texts.

-- a text that is made of a piece for each of some things, in their order; each piece begins with what is known of it
abbrev pub IsMadeOf : {A : Type 0} → (A → List ℕ) → List A → List ℕ → Type 0
IsMadeOf begins [] text = text ≡ []
IsMadeOf begins (x ∷ xs) text = (look : List ℕ) × (rest : List ℕ) × (text ≡ begins x ++ (look ++ rest)) × IsMadeOf begins xs rest

-- The text of a chart that draws each event: an element for each bar, and one for each refusal, start, cull and removal.
pub record IsEachDrawn (picture : Picture) (text : List ℕ) : Type 0 where
  pub front : List ℕ
  pub bars : List ℕ
  pub middle : List ℕ
  pub refusals : List ℕ
  pub back : List ℕ
  pub whole : text ≡ front ++ (bars ++ (middle ++ (refusals ++ back)))
  pub of_bars : IsMadeOf bar_opening picture.drawn.bars.items bars
  pub of_marks : IsMadeOf mark_opening picture.marks.items refusals

-- The text of a gathered chart: an element for each column.
pub record IsGatheredDrawn (picture : Picture) (text : List ℕ) : Type 0 where
  pub front : List ℕ
  pub columns : List ℕ
  pub back : List ℕ
  pub whole : text ≡ front ++ (columns ++ back)
  pub of_columns : IsMadeOf column_opening picture.drawn.columns.items columns

-- the text of a chart after its beginning
abbrev pub IsRestDrawn : Picture → List ℕ → Type 0
IsRestDrawn picture text = (picture.drawn.columns.items ≡ [] → IsEachDrawn picture text) × ((picture.drawn.columns.items ≡ [] → ⊥) → IsGatheredDrawn picture text)

-- a text with an addition about which something is known
abbrev pub IsAddition : (List ℕ → Type 0) → List ℕ → List ℕ → Type 0
IsAddition known old new = (part : List ℕ) × (new ≡ old ++ part) × known part

-- the text of a chart: it begins with the number of the events that are drawn, and with the style and the name once the page is laid out
abbrev pub IsSvgOf : List ℕ → Picture → List ℕ → Type 0
IsSvgOf name picture text = (page : List ℕ) × (rest : List ℕ) × (text ≡ opening (length picture.levels.items) ++ (page ++ (style ++ (name_line name ++ rest)))) × IsRestDrawn picture rest

-- the text of the chart, with a name, of the part of a history with this verdict in a pool of some limits that an extent asks for; its events may have times
abbrev pub IsHistorySvg : Extent → List ℕ → Sizes → Verdict → List JdkEvent → Option (List ℕ) → List ℕ → Type 0
IsHistorySvg extent name limits verdict history times text = (picture : Picture) × IsPictureOf extent limits verdict history times picture × IsSvgOf name picture text
