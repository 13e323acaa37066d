mod CalendarLemmas
mod TextLemmas
