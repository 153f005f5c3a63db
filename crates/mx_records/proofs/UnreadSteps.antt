-- How a state that keeps rows by user and room goes on by one input: by what becomes of the rows of each thread.
use Rattle.std.proofs.Common.{◌≡◌, ℕ, Bool, cond, List, [], ◌++◌, Option, unwrap_or, ap, sym, ◌∙◌}
use Rattle.mx_json.specs.declared.value.Json.{Json}
use Rattle.mx_room.specs.Texts.{Texts}
use Rattle.mx_rows.specs.declared.thread_key.ThreadKey.{ThreadKey}
use Rattle.mx_rows.specs.Rows.{above}
use Rattle.mx_records.specs.declared.input.Input.TheVariants.{Event, Receipt}
use Rattle.mx_records.specs.History.{History, with_input}
use Rattle.mx_records.specs.KeptRows.{IsKept, thread_rows}
use Rattle.mx_records.specs.Places.{position_of}
use Rattle.mx_records.specs.Snapshot.{RoomRows, rows_at, unread_rows}
use Rattle.mx_records.proofs.OrderedLemmas.{unread_rows-told}
use Rattle.mx_records.proofs.SnapshotLemmas.{thread_rows-unread}
use Rattle.mx_records.proofs.UnreadLemmas.{moves_in, next_row, reads, rows_of-event, rows_of-receipt}

module _ (server : List ℕ) (h : History) (old new : Texts (Texts RoomRows)) (before : old ≡ unread_rows server h)
    (kept : IsKept new) where
  -- after an event, where whom it moves has none left in its room, and else its row is added
  pub unread_rows-event : (event : Json)
      → ((user room : List ℕ) (t : ThreadKey)
      → thread_rows t (rows_at new user room)
      ≡ cond (moves_in room h event user) []
      (thread_rows t (rows_at old user room) ++ next_row server h event user room t))
      → new ≡ unread_rows server (with_input h (Event event))
  unread_rows-event event step =
      unread_rows-told server (with_input h (Event event)) new kept (λ user room t.
      step user room t
      ∙ ap (λ rows. cond (moves_in room h event user) [] (rows ++ next_row server h event user room t))
      (ap (λ (unread : Texts (Texts RoomRows)). thread_rows t (rows_at unread user room)) before
      ∙ thread_rows-unread server h user room t)
      ∙ sym (rows_of-event server h event user room t))

  -- after a receipt, where what it reads is cut at the event that it names
  pub unread_rows-receipt : (reader named id : List ℕ) (private : Bool) (of : Option ThreadKey)
      → ((user room : List ℕ) (t : ThreadKey)
      → thread_rows t (rows_at new user room)
      ≡ cond (reads reader named of user room t)
      (above (unwrap_or (position_of h id) 0) (thread_rows t (rows_at old user room)))
      (thread_rows t (rows_at old user room)))
      → new ≡ unread_rows server (with_input h (Receipt reader named id private of))
  unread_rows-receipt reader named id private of step =
      unread_rows-told server (with_input h (Receipt reader named id private of)) new kept (λ user room t.
      step user room t
      ∙ ap (λ rows. cond (reads reader named of user room t) (above (unwrap_or (position_of h id) 0) rows) rows)
      (ap (λ (unread : Texts (Texts RoomRows)). thread_rows t (rows_at unread user room)) before
      ∙ thread_rows-unread server h user room t)
      ∙ sym (rows_of-receipt server h reader named id private of user room t))
